use Rattle.std.proofs.Common.{◌≡◌, Some, rules}
use Rattle.cbor.specs.Shapes.{key_at}
use Rattle.tx.proofs.Bare.{minted_wants}
use Rattle.tx.proofs.body.read_mint.Goals as goal

pub returns-in_err-mint-clause-want : goal.returns-in_err-mint-clause-want
returns-in_err-mint-clause-want c =
    let key : key_at 9 c.args.left c.args.bytes.now ≡ Some (c.in-Some.after, c.in-Some.text.now) = search rules in
    minted_wants c.from_residual.result c.args.left c.args.bytes.now c.in-Some.after c.in-Some.text.now key
