use Rattle.std.proofs.Common.{◌≡◌, None, arith}
use Rattle.std.proofs.lemmas.Grind.{common_steps}
use Rattle.cbor.specs.Reading.{null_at}
use Rattle.cbor.proofs.Clauses.{no_null}
use Rattle.cbor.proofs.reader.null.Goals as goal

pub returns-then-value-ne-NULL-clause-none : goal.returns-then-value-ne-NULL-clause-none
unfolding null_at
returns-then-value-ne-NULL-clause-none c =
    let unread : null_at c.args.bytes.now ≡ None = grind (arith, common_steps) in
    no_null c.args.bytes.now unread
