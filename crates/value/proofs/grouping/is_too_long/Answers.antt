use Rattle.std.proofs.Common.{arith}
use Rattle.cbor.proofs.ForCallers.{AllByRecursion-bytes}
use Rattle.value.proofs.grouping.is_too_long.Goals as goal

pub returns-clause-bytes : goal.returns-clause-bytes
returns-clause-bytes c = AllByRecursion-bytes c.args.name.now (λ i. omega (arith, c.type_inv.name i))
