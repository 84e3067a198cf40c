use Rattle.watching.proofs.Reaching.{reach_stays}
use Rattle.watching.proofs.laws.reach_stays.Goals as goal

pub returns : goal.returns
returns c = reach_stays
