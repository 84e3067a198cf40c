use Rattle.std.proofs.Common.{arith}
use Rattle.std.proofs.lemmas.Result.{err_from_is_err_and}
use Rattle.cbor.specs.Tree.{item_of}
use Rattle.cbor.proofs.ItemLaws.{rest_is_shorter}
use Rattle.cbor.proofs.TreeClauses.{front_spells, refused}
use Rattle.cbor.proofs.Bare.{bare_wants}
use Rattle.cbor.proofs.tree_reader.read.Goals as goal

pub returns-in_err-item-clause-malformed : goal.returns-in_err-item-clause-malformed
returns-in_err-item-clause-malformed c =
    let p = err_from_is_err_and c.from_residual.result c.from_residual.ensures.1 in
    rw (p.1, p.2) (refused c.in_err-item.field-0.0 c.args.bytes.now c.in_err-item.ensures.exact)

pub overflow_sub-result : goal.overflow_sub-result
overflow_sub-result c = rest_is_shorter 64 c.args.bytes.now (item_of c.in_ok-item.item) c.in_ok-item.rest.now (λ i. omega (arith, c.type_inv.bytes i)) c.in_ok-item.ensures.exact

pub returns-clause-found : goal.returns-clause-found
returns-clause-found c = (omega arith, front_spells c.args.bytes.now (item_of c.in_ok-item.item) c.in_ok-item.rest.now (λ i. omega (arith, c.type_inv.bytes i)) c.in_ok-item.ensures.exact)

pub returns-in_err-item-clause-want : goal.returns-in_err-item-clause-want
returns-in_err-item-clause-want c =
    let p = err_from_is_err_and c.from_residual.result c.from_residual.ensures.1 in
    rw (p.1, p.2) (bare_wants c.in_err-item.field-0.0 c.args.bytes.now c.in_err-item.ensures.begins)

pub returns-in_err-item-clause-begins : goal.returns-in_err-item-clause-begins
returns-in_err-item-clause-begins c =
    let p = err_from_is_err_and c.from_residual.result c.from_residual.ensures.1 in
    rw (p.1, p.2) c.in_err-item.ensures.begins
