use Rattle.model.proofs.LegalHistories.{legal_sound}
use Rattle.model.proofs.WaysBack.{hangs_past}
use Rattle.model.proofs.asking.never_too_far_back.Goals as goal

pub returns : goal.returns
returns c = λ network history s b keep opens legal live hangs. hangs_past network s b keep (legal_sound network history s opens legal).valid.linked live hangs
