use Rattle.std.proofs.Common.{◌≡◌, Some, arith, rules, refl, ◌∙◌}
use Rattle.cbor.specs.Reading.{null_at}
use Rattle.cbor.specs.Shapes.{members_at}
use Rattle.cbor.specs.Bare.{BeginsWithHead}
use Rattle.cbor.proofs.ForCallers.{members_takes, wants_anyway}
use Rattle.tx.specs.Body.{body_item, transaction_with}
use Rattle.tx.specs.BodyView.{body_of}
use Rattle.tx.specs.WitnessesView.{witnesses_of}
use Rattle.model.specs.Cbor.{text_of}
use Rattle.model.specs.Transaction.{item_of_transaction}
use Rattle.tx.proofs.TransactionTexts.{front_text, body_front, transaction_front, transaction_opened, members_are_bytes, read_is_kept}
use Rattle.tx.proofs.tx.Tx.first.Goals as goal

pub overflow_sub-members : goal.overflow_sub-members
overflow_sub-members c =
    let m : members_at 3 c.args.bytes.now ≡ Some c.in_ok-members.members.now = search rules in
    let members = c.in_ok-members.members.now in
    let body = body_of c.in_ok-body.body in
    let fits = members_are_bytes c.args.bytes.now members (λ i. omega (arith, c.type_inv.bytes i)) m in
    (front_text members (text_of (body_item body)) c.in_ok-body.after_body.now (body_front members body c.in_ok-body.after_body.now fits c.in_ok-body.ensures.exact)).2

pub overflow_sub-tx : goal.overflow_sub-tx
overflow_sub-tx c =
    let m : members_at 3 c.args.bytes.now ≡ Some c.in_ok-members.members.now = search rules in
    let n : null_at c.in_ok-witnesses.after_witnesses.now ≡ Some c.in_ok-rest.rest.now = search rules in
    let body = body_of c.in_ok-body.body in
    let w = witnesses_of c.in_ok-witnesses.witnesses in
    let t = transaction_with body w.0 w.1 in
    let e = transaction_opened c.args.depth c.args.bytes.now c.in_ok-members.members.now body c.in_ok-body.after_body.now w c.in_ok-witnesses.after_witnesses.now c.in_ok-rest.rest.now m c.in_ok-body.ensures.exact c.in_ok-witnesses.ensures.exact n in
    (front_text c.args.bytes.now (text_of (item_of_transaction t)) c.in_ok-rest.rest.now (transaction_front c.args.depth c.requires c.args.bytes.now t c.in_ok-rest.rest.now (λ i. omega (arith, c.type_inv.bytes i)) e)).2

pub invariant_of-tx : goal.invariant_of-tx
invariant_of-tx c =
    let m : members_at 3 c.args.bytes.now ≡ Some c.in_ok-members.members.now = search rules in
    let n : null_at c.in_ok-witnesses.after_witnesses.now ≡ Some c.in_ok-rest.rest.now = search rules in
    let members = c.in_ok-members.members.now in
    let body = body_of c.in_ok-body.body in
    let w = witnesses_of c.in_ok-witnesses.witnesses in
    let t = transaction_with body w.0 w.1 in
    let fits = members_are_bytes c.args.bytes.now members (λ i. omega (arith, c.type_inv.bytes i)) m in
    let front = (front_text members (text_of (body_item body)) c.in_ok-body.after_body.now (body_front members body c.in_ok-body.after_body.now fits c.in_ok-body.ensures.exact)).1 in
    let e = transaction_opened c.args.depth c.args.bytes.now members body c.in_ok-body.after_body.now w c.in_ok-witnesses.after_witnesses.now c.in_ok-rest.rest.now m c.in_ok-body.ensures.exact c.in_ok-witnesses.ensures.exact n in
    let kept = read_is_kept c.args.depth c.requires c.args.bytes.now t c.in_ok-rest.rest.now (λ i. omega (arith, c.type_inv.bytes i)) e c.split_at.result.0.now c.of_body.result.bytes _ (c.split_at.ensures.front ∙ front) c.of_body.ensures refl in
    record { is_transaction = kept.is_transaction; has_text = kept.has_text; id = kept.id; size = kept.size }

pub returns-in_err-body-clause-begins : goal.returns-in_err-body-clause-begins
returns-in_err-body-clause-begins c =
    let m : members_at 3 c.args.bytes.now ≡ Some c.in_ok-members.members.now = search rules in
    let taken = members_takes 3 c.args.bytes.now c.in_ok-members.members.now (λ i. omega (arith, c.type_inv.bytes i)) m in
    wants_anyway c.from_residual-in_err-body.result (BeginsWithHead 4 3 c.args.bytes.now) (record { rest = c.in_ok-members.members.now; parts = taken.parts })

pub returns-in_err-witnesses-clause-begins : goal.returns-in_err-witnesses-clause-begins
returns-in_err-witnesses-clause-begins c =
    let m : members_at 3 c.args.bytes.now ≡ Some c.in_ok-members.members.now = search rules in
    let taken = members_takes 3 c.args.bytes.now c.in_ok-members.members.now (λ i. omega (arith, c.type_inv.bytes i)) m in
    wants_anyway c.from_residual-in_err-witnesses.result (BeginsWithHead 4 3 c.args.bytes.now) (record { rest = c.in_ok-members.members.now; parts = taken.parts })
