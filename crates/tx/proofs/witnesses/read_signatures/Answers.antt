use Rattle.std.proofs.Common.{◌≡◌, Some, rules}
use Rattle.cbor.specs.Shapes.{key_at}
use Rattle.tx.proofs.Bare.{signatures_want}
use Rattle.tx.proofs.witnesses.read_signatures.Goals as goal

pub returns-in_err-signatures-clause-want : goal.returns-in_err-signatures-clause-want
returns-in_err-signatures-clause-want c =
    let key : key_at 0 c.args.left c.args.bytes.now ≡ Some (c.in-Some.after, c.in-Some.text.now) = search rules in
    signatures_want c.from_residual.result c.args.left c.args.bytes.now c.in-Some.after c.in-Some.text.now key
