use Rattle.watching.proofs.Reaching.{points_kept}
use Rattle.watching.proofs.laws.points_are_kept.Goals as goal

pub returns : goal.returns
returns c = points_kept
