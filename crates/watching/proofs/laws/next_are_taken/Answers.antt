use Rattle.watching.proofs.Reaching.{next_taken}
use Rattle.watching.proofs.laws.next_are_taken.Goals as goal

pub returns : goal.returns
returns c = next_taken
