use Rattle.std.proofs.Common.{◌≡◌, None, arith}
use Rattle.std.proofs.lemmas.Grind.{common_steps}
use Rattle.cbor.specs.Reading.{bytes_at}
use Rattle.cbor.proofs.Clauses.{no_string}
use Rattle.cbor.proofs.reader.byte_string.Goals as goal

pub returns-then-rest-count-clause-none : goal.returns-then-rest-count-clause-none
unfolding bytes_at
returns-then-rest-count-clause-none c =
    let unread : bytes_at c.args.bytes.now ≡ None = grind (arith, common_steps) in
    no_string c.args.bytes.now (omega arith) unread
