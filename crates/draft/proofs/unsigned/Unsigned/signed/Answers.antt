use Rattle.std.proofs.Common.{◌≡◌, ◌∙◌, List, ℕ, sym, ap, map, subst}
use Rattle.model.specs.Transaction.{KeyWitness, transaction_id_of}
use Rattle.tx.specs.Parts.{IsTxOf}
use Rattle.tx.specs.View.{witness_of}
use Rattle.draft.specs.Draft.{witness_by}
use Rattle.draft.specs.UnsignedView.{parts_of_unsigned}
use Rattle.draft.proofs.unsigned.Unsigned.signed.Goals as goal

pub returns-clause-tx : goal.returns-clause-tx
returns-clause-tx g c =
    let tx = c.in_ok-tx.tx in
    let made = map witness_of c.in_ok-witnesses_by.field-0.items in
    let same = c.in_ok-id.ensures tx _ made c.args.scripts.items c.id-id.ensures.spelled c.in_ok-tx.ensures in
    let signed : made ≡ map (witness_by (transaction_id_of tx)) (map g.K.Signer.signer c.args.signers.now) =
    c.in_ok-witnesses_by.ensures ∙ ap (λ (id : List ℕ). map (witness_by id) (map g.K.Signer.signer c.args.signers.now)) (sym same) in
    subst (λ (ws : List KeyWitness). IsTxOf tx (parts_of_unsigned c.args.self ws c.args.scripts.items)) signed c.in_ok-tx.ensures
