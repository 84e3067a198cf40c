use Rattle.std.proofs.Common.{arith}
use Rattle.cbor.proofs.ForCallers.{AllByRecursion-bytes}
use Rattle.wellformed.proofs.Contents.{bytes_short}
use Rattle.wellformed.proofs.Walking.{bytes_taken}
use Rattle.wellformed.proofs.walk.string.Goals as goal

pub returns-then-bytes-count-clause-stops : goal.returns-then-bytes-count-clause-stops
returns-then-bytes-count-clause-stops c = bytes_short c.args.count c.args.bytes.now (AllByRecursion-bytes c.args.bytes.now (λ i. omega (arith, c.type_inv.bytes i))) c.if-bytes-count.true

pub returns-clause-found : goal.returns-clause-found
returns-clause-found c = bytes_taken c.args.count c.args.bytes.now c.split_at.result.1.now (λ i. omega (arith, c.type_inv.bytes i)) c.if-bytes-count.false c.split_at.ensures.back
