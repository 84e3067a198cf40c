use Rattle.std.proofs.Common.{◌≡◌, None, arith}
use Rattle.std.proofs.lemmas.Grind.{common_steps}
use Rattle.cbor.specs.Reading.{fixed_at}
use Rattle.cbor.proofs.Clauses.{no_fixed}
use Rattle.cbor.proofs.reader.fixed.Goals as goal

pub returns-in_err-text-2-clause-none : goal.returns-in_err-text-2-clause-none
unfolding fixed_at
returns-in_err-text-2-clause-none g c =
    let unread : fixed_at g.row.N c.args.bytes.now ≡ None = grind (arith, common_steps) in
    rw c.from_residual-in_err-text-2.ensures (no_fixed g.row.N c.args.bytes.now (omega arith) unread)
