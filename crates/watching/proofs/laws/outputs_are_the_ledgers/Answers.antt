use Rattle.watching.proofs.Judged.{outputs_are}
use Rattle.watching.proofs.laws.outputs_are_the_ledgers.Goals as goal

pub returns : goal.returns
returns c = outputs_are
