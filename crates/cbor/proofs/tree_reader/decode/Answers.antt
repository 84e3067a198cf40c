use Rattle.std.proofs.lemmas.Result.{err_from_is_err_and}
use Rattle.cbor.specs.Tree.{item_of}
use Rattle.cbor.proofs.TreeClauses.{refused_whole, more_follows}
use Rattle.cbor.proofs.Bare.{whole_wants}
use Rattle.cbor.proofs.tree_reader.decode.Goals as goal

pub returns-in_err-item-clause-malformed : goal.returns-in_err-item-clause-malformed
returns-in_err-item-clause-malformed c =
    let p = err_from_is_err_and c.from_residual.result c.from_residual.ensures.1 in
    rw (p.1, p.2) (refused_whole c.in_err-item.field-0.0 c.args.bytes.now c.in_err-item.ensures.malformed)

pub returns-then-length-bytes-clause-malformed : goal.returns-then-length-bytes-clause-malformed
returns-then-length-bytes-clause-malformed c =
    let found = c.in_ok-item.ensures.found in
    more_follows c.args.bytes.now (item_of c.in_ok-item.item) c.in_ok-item.length found.0 c.if-length-bytes.true found.1

pub returns-in_err-item-clause-want : goal.returns-in_err-item-clause-want
returns-in_err-item-clause-want c =
    let p = err_from_is_err_and c.from_residual.result c.from_residual.ensures.1 in
    rw (p.1, p.2) (whole_wants c.in_err-item.field-0.0 c.args.bytes.now c.in_err-item.ensures.want)

pub returns-in_err-item-clause-begins : goal.returns-in_err-item-clause-begins
returns-in_err-item-clause-begins c =
    let p = err_from_is_err_and c.from_residual.result c.from_residual.ensures.1 in
    rw (p.1, p.2) c.in_err-item.ensures.begins
