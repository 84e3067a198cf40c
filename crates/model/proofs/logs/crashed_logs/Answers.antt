use Rattle.model.proofs.LogTexts.{opens_to_beginning}
use Rattle.model.proofs.logs.crashed_logs.Goals as goal

pub returns : goal.returns
returns c = opens_to_beginning
