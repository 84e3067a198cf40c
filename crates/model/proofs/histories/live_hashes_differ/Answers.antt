use Rattle.model.proofs.LegalHistories.{legal_sound}
use Rattle.model.proofs.histories.live_hashes_differ.Goals as goal

pub returns : goal.returns
returns c = λ network history s opens legal. (legal_sound network history s opens legal).distinct
