use Rattle.std.proofs.Common.{arith}
use Rattle.wellformed.proofs.Zeros.{none_found}
use Rattle.wellformed.proofs.argument.argument.Goals as goal

pub returns-in-0-to-23-clause-found : goal.returns-in-0-to-23-clause-found
returns-in-0-to-23-clause-found c = rw c.into.ensures (none_found c.args.low c.args.bytes.now (omega arith))
