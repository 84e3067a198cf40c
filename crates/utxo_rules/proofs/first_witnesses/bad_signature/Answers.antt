use Rattle.std.proofs.Common.{◌≡◌, ℕ, true, false, List, refl, sym, ap, subst, ◌∙◌, rules}
use Rattle.std.specs.List.{list_all}
use Rattle.model.specs.Transaction.{Transaction, KeyWitness, transaction_id_of}
use Rattle.tx.specs.View.{witness_of}
use Rattle.witness_pool.specs.Verdicts.{is_good}
use Rattle.model.specs.Explaining.{IsFailingAt}
use Rattle.utxo_rules.proofs.Finding.{pass_more, fails_here, all_pass_here}
use Rattle.utxo_rules.proofs.first_witnesses.bad_signature.Goals as goal

pub returns-then-not-verify : goal.returns-then-not-verify
returns-then-not-verify g c = λ params utxo slot.
    let good = is_good g.S.SigScheme.verifies c.id-id.result.bytes in
    let i = c.loop-witness.witness-index in
    let w = witness_of c.witness-item.result in
    let bad : good w ≡ false = search (rules, c.verify.ensures, c.as_bytes.ensures, c.if-not-verify.true) in
    let first = fails_here witness_of good c.signatures-signatures.result.now i c.witness-item.result c.loop-witness-test.true c.witness-item.is bad c.loop-witness.invariant in
    let of_all = subst (λ (ws : List KeyWitness). IsFailingAt good ws i w) c.signatures-signatures.ensures first in
    let of_id = subst (λ (id : List ℕ). IsFailingAt (is_good g.S.SigScheme.verifies id) c.tx-tx.result.now.signatures i w) c.id-id.ensures.is of_all in
    (refl, (w, (i, subst (λ (t : Transaction). IsFailingAt (is_good g.S.SigScheme.verifies (transaction_id_of t)) t.signatures i w) c.tx-tx.ensures of_id), refl))

pub loop-witness-preserved : goal.loop-witness-preserved
loop-witness-preserved g c =
    let good = is_good g.S.SigScheme.verifies c.id-id.result.bytes in
    let here : good (witness_of c.witness-item.result) ≡ true = search (rules, c.verify.ensures, c.as_bytes.ensures, c.if-not-verify.false) in
    pass_more witness_of good c.signatures-signatures.result.now c.loop-witness.witness-index c.witness-item.result c.loop-witness-test.true c.witness-item.is here c.loop-witness.invariant

pub returns : goal.returns
returns g c = λ params utxo slot.
    let good = is_good g.S.SigScheme.verifies c.id-id.result.bytes in
    ap (λ (t : Transaction). list_all (is_good g.S.SigScheme.verifies (transaction_id_of t)) t.signatures) (sym c.tx-tx.ensures)
    ∙ ap (λ (id : List ℕ). list_all (is_good g.S.SigScheme.verifies id) c.tx-tx.result.now.signatures) (sym c.id-id.ensures.is)
    ∙ ap (list_all good) (sym c.signatures-signatures.ensures)
    ∙ all_pass_here witness_of good c.signatures-signatures.result.now c.loop-witness.witness-index c.loop-witness-test.false c.loop-witness.invariant
