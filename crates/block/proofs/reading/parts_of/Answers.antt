use Rattle.std.proofs.Common.{◌≡◌, Some, length, sym, ap, arith, rules}
use Rattle.std.proofs.lemmas.Bool.{eqb-true}
use Rattle.std.proofs.lemmas.List.{length-append, nil_from_length}
use Rattle.model.specs.Cbor.{text_of}
use Rattle.model.specs.Block.{item_of_header}
use Rattle.cbor.specs.Shapes.{members_at}
use Rattle.cbor.specs.Bare.{BeginsWithHead}
use Rattle.cbor.proofs.ForCallers.{whatever_err, members_takes, wants_anyway}
use Rattle.block.specs.Reading.{header_at}
use Rattle.block.specs.View.{header_of}
use Rattle.block.proofs.Blocks.{header_before_body, body_at_end, front_is, empty_body_read}
use Rattle.block.proofs.reading.parts_of.Goals as goal

pub overflow_sub-members : goal.overflow_sub-members
overflow_sub-members c =
    let m : members_at 2 c.args.bytes.now ≡ Some c.in_ok-members.members.now = search rules in
    let h : header_at c.in_ok-members.members.now ≡ Some (header_of c.in_ok-header.header, c.in_ok-header.body_text.now) = search rules in
    let split = header_before_body c.args.bytes.now c.in_ok-members.members.now (header_of c.in_ok-header.header) c.in_ok-header.body_text.now (λ i. omega (arith, c.type_inv.bytes i)) m h in
    let text = text_of (item_of_header (header_of c.in_ok-header.header)) in
    omega (arith, length-append text c.in_ok-header.body_text.now, ap length split)

pub returns-clause-header_text : goal.returns-clause-header_text
returns-clause-header_text c =
    let m : members_at 2 c.args.bytes.now ≡ Some c.in_ok-members.members.now = search rules in
    let h : header_at c.in_ok-members.members.now ≡ Some (header_of c.in_ok-header.header, c.in_ok-header.body_text.now) = search rules in
    let split = header_before_body c.args.bytes.now c.in_ok-members.members.now (header_of c.in_ok-header.header) c.in_ok-header.body_text.now (λ i. omega (arith, c.type_inv.bytes i)) m h in
    front_is c.split_at.result.0.now c.in_ok-members.members.now (text_of (item_of_header (header_of c.in_ok-header.header))) c.in_ok-header.body_text.now split c.split_at.ensures.front

pub returns-clause-body_text : goal.returns-clause-body_text
returns-clause-body_text c =
    let m : members_at 2 c.args.bytes.now ≡ Some c.in_ok-members.members.now = search rules in
    let h : header_at c.in_ok-members.members.now ≡ Some (header_of c.in_ok-header.header, c.in_ok-header.body_text.now) = search rules in
    body_at_end c.args.bytes.now c.in_ok-members.members.now (header_of c.in_ok-header.header) c.in_ok-header.body_text.now c.in_ok-transactions.transactions.items c.in_ok-transactions.after.now (λ i. omega (arith, c.type_inv.bytes i)) m h c.in_ok-transactions.ensures.exact (nil_from_length c.in_ok-transactions.after.now (eqb-true _ _ (sym c.if-not-is_empty.ensures)))

pub returns-in_err-transactions-clause-some : goal.returns-in_err-transactions-clause-some
returns-in_err-transactions-clause-some c =
    let m : members_at 2 c.args.bytes.now ≡ Some c.in_ok-members.members.now = search rules in
    let h : header_at c.in_ok-members.members.now ≡ Some (header_of c.in_ok-header.header, c.in_ok-header.body_text.now) = search rules in
    whatever_err c.from_residual-in_err-transactions.result _ (λ b e none.
    let r = empty_body_read c.args.bytes.now c.in_ok-members.members.now (header_of c.in_ok-header.header) c.in_ok-header.body_text.now m h b e none in
    c.in_err-transactions.ensures.some r.0 r.1)

pub returns-in_err-transactions-clause-begins : goal.returns-in_err-transactions-clause-begins
returns-in_err-transactions-clause-begins c =
    let m : members_at 2 c.args.bytes.now ≡ Some c.in_ok-members.members.now = search rules in
    let taken = members_takes 2 c.args.bytes.now c.in_ok-members.members.now (λ i. omega (arith, c.type_inv.bytes i)) m in
    wants_anyway c.from_residual-in_err-transactions.result (BeginsWithHead 4 2 c.args.bytes.now) (record { rest = c.in_ok-members.members.now; parts = taken.parts })
