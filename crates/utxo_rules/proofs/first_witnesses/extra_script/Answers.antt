use Rattle.std.proofs.Common.{◌≡◌, ℕ, List, ◌++◌, map, refl, ap, subst, ◌∙◌}
use Rattle.model.specs.Script.{script_hash_of}
use Rattle.model.specs.Value.{Mint}
use Rattle.model.specs.Transaction.{Transaction}
use Rattle.model.specs.Rules.{is_among, scripts_needed, scripts_of}
use Rattle.model.specs.Explaining.{IsFirstFailing}
use Rattle.utxo_rules.proofs.Ends.{spent_by}
use Rattle.utxo_rules.proofs.first_witnesses.extra_script.Goals as goal

pub returns-in-Some : goal.returns-in-Some
returns-in-Some g c = λ params slot.
    let t = c.args.checked.now in
    let utxo = c.args.utxo.now in
    let hash = c.in-Some.hash.bytes in
    let whole = spent_by c.in_ok-spent.spent utxo t c.tx-tx.result.now c.inputs.result.now c.inputs.ensures c.tx-tx.ensures c.in_ok-spent.ensures.spent in
    let needed : c.in_ok-needed.needed.items ≡ scripts_needed utxo t =
    c.in_ok-needed.ensures ∙ ap (λ (m : Mint). c.in_ok-spent.spent.scripts.items ++ map (λ policy. policy.id) m) (c.mint.ensures ∙ ap (λ (x : Transaction). x.mint) c.tx-tx.ensures)
    ∙ ap (λ (hs : List (List ℕ)). hs ++ map (λ policy. policy.id) t.mint) whole.scripts in
    let supplied : map script_hash_of c.scripts.result.now ≡ scripts_of t = ap (map script_hash_of) (c.scripts.ensures ∙ ap (λ (x : Transaction). x.scripts) c.tx-tx.ensures) in
    let of_needed = subst (λ (hs : List (List ℕ)). IsFirstFailing (is_among hs) (map script_hash_of c.scripts.result.now) hash) needed c.in-Some.ensures in
    (refl, subst (λ (hs : List (List ℕ)). IsFirstFailing (is_among (scripts_needed utxo t)) hs hash) supplied of_needed)
