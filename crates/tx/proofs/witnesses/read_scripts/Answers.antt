use Rattle.std.proofs.Common.{◌≡◌, Some, rules}
use Rattle.cbor.specs.Shapes.{key_at}
use Rattle.tx.proofs.Bare.{scripts_want}
use Rattle.tx.proofs.witnesses.read_scripts.Goals as goal

pub returns-in_err-scripts-clause-want : goal.returns-in_err-scripts-clause-want
returns-in_err-scripts-clause-want c =
    let key : key_at 1 c.args.left c.args.bytes.now ≡ Some (c.in-Some.after, c.in-Some.text.now) = search rules in
    scripts_want c.from_residual.result c.args.depth c.args.left c.args.bytes.now c.in-Some.after c.in-Some.text.now key
