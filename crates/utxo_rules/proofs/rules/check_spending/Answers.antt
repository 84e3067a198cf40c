use Rattle.std.proofs.Common.{◌≡◌, ℕ, List, map, refl, sym, ap, ◌∙◌, ◌++◌}
use Rattle.model.specs.Value.{Mint}
use Rattle.model.specs.Transaction.{Transaction}
use Rattle.model.specs.Balance.{is_balanced}
use Rattle.model.specs.Rules.{has_free_places, keys_needed, scripts_needed}
use Rattle.utxo_rules.proofs.Ends.{spent_by, not_balanced, not_free, to_witnesses}
use Rattle.utxo_rules.proofs.rules.check_spending.Goals as goal

pub returns-then-not-balanced : goal.returns-then-not-balanced
returns-then-not-balanced g c =
    let spent = spent_by c.in_ok-spent.spent c.args.utxo.now c.tx-tx.result.now c.tx-tx.result.now c.inputs.result.now c.inputs.ensures refl c.in_ok-spent.ensures.spent in
    let balance : c.in_ok-balanced.balanced ≡ is_balanced c.args.utxo.now c.args.checked.now = c.in_ok-balanced.ensures c.args.utxo.now spent.sums ∙ ap (is_balanced c.args.utxo.now) c.tx-tx.ensures in
    not_balanced g.S.SigScheme.verifies c.args.utxo.now c.args.checked.now (sym balance ∙ c.if-not-balanced.true)

pub returns-then-not-has_free_places : goal.returns-then-not-has_free_places
returns-then-not-has_free_places g c =
    let spent = spent_by c.in_ok-spent.spent c.args.utxo.now c.tx-tx.result.now c.tx-tx.result.now c.inputs.result.now c.inputs.ensures refl c.in_ok-spent.ensures.spent in
    let balance : c.in_ok-balanced.balanced ≡ is_balanced c.args.utxo.now c.args.checked.now = c.in_ok-balanced.ensures c.args.utxo.now spent.sums ∙ ap (is_balanced c.args.utxo.now) c.tx-tx.ensures in
    let free : c.has_free_places.result ≡ has_free_places c.args.utxo.now c.args.checked.now = c.has_free_places.ensures ∙ ap (has_free_places c.args.utxo.now) c.tx-tx.ensures in
    not_free g.S.SigScheme.verifies c.args.utxo.now c.args.checked.now (sym balance ∙ c.if-not-balanced.false) (sym free ∙ c.if-not-has_free_places.true)

pub returns : goal.returns
returns g c =
    let t = c.args.checked.now in
    let utxo = c.args.utxo.now in
    let whole = spent_by c.in_ok-spent.spent utxo t c.tx-tx.result.now c.inputs.result.now c.inputs.ensures c.tx-tx.ensures c.in_ok-spent.ensures.spent in
    let spent = spent_by c.in_ok-spent.spent utxo c.tx-tx.result.now c.tx-tx.result.now c.inputs.result.now c.inputs.ensures refl c.in_ok-spent.ensures.spent in
    let balance : c.in_ok-balanced.balanced ≡ is_balanced utxo t = c.in_ok-balanced.ensures utxo spent.sums ∙ ap (is_balanced utxo) c.tx-tx.ensures in
    let free : c.has_free_places.result ≡ has_free_places utxo t = c.has_free_places.ensures ∙ ap (has_free_places utxo) c.tx-tx.ensures in
    let keys : c.deref.result.now ≡ keys_needed utxo t = c.deref.ensures.value ∙ whole.keys in
    let scripts : c.in_ok-scripts.scripts.items ≡ scripts_needed utxo t =
    c.in_ok-scripts.ensures ∙ ap (λ (m : Mint). c.in_ok-spent.spent.scripts.items ++ map (λ policy. policy.id) m) (c.mint.ensures ∙ ap (λ (x : Transaction). x.mint) c.tx-tx.ensures)
    ∙ ap (λ (hs : List (List ℕ)). hs ++ map (λ policy. policy.id) t.mint) whole.scripts in
    let to = to_witnesses g.S.SigScheme.verifies utxo t (sym balance ∙ c.if-not-balanced.false) (sym free ∙ c.if-not-has_free_places.false) in
    rw (to, ← keys, ← scripts) c.check_witnesses.ensures
