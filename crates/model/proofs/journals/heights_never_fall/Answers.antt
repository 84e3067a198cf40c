use Rattle.model.proofs.Heights.{never_falls}
use Rattle.model.proofs.journals.heights_never_fall.Goals as goal

pub returns : goal.returns
returns c = never_falls
