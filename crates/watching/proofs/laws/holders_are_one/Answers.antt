use Rattle.watching.proofs.OneList.{one_list}
use Rattle.watching.proofs.laws.holders_are_one.Goals as goal

pub returns : goal.returns
returns c = one_list
