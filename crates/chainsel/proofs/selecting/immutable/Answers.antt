use Rattle.std.proofs.Common.{arith}
use Rattle.chainsel.proofs.selecting.immutable.Goals as goal

pub returns-clause-immutable : goal.returns-clause-immutable
returns-clause-immutable g c = λ network store settled.
    let deep = settled.depth in let is = c.depth.ensures.depth in let told = c.saturating_sub.ensures in omega arith
