use Rattle.model.proofs.LegalHistories.{kept_by_history}
use Rattle.model.proofs.histories.kept_blocks.Goals as goal

pub returns : goal.returns
returns c = kept_by_history
