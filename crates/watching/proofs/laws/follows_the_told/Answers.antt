use Rattle.watching.proofs.Following.{follows_told}
use Rattle.watching.proofs.laws.follows_the_told.Goals as goal

pub returns : goal.returns
returns c = follows_told
