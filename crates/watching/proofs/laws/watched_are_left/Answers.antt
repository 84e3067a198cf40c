use Rattle.watching.proofs.Narrowing.{at_watched}
use Rattle.watching.proofs.laws.watched_are_left.Goals as goal

pub returns : goal.returns
returns c = at_watched
