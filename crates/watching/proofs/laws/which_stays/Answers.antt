use Rattle.watching.proofs.Following.{which_stays}
use Rattle.watching.proofs.laws.which_stays.Goals as goal

pub returns : goal.returns
returns c = which_stays
