use Rattle.watching.proofs.Narrowing.{none_left_out}
use Rattle.watching.proofs.laws.none_is_left_out.Goals as goal

pub returns : goal.returns
returns c = none_left_out
