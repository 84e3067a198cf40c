use Rattle.std.proofs.Common.{◌≡◌, ℕ, true, false, List, map, refl, sym, ap, subst, ◌∙◌, rules}
use Rattle.std.specs.List.{list_all}
use Rattle.std.proofs.lemmas.List.{map-id}
use Rattle.model.specs.Script.{Script, Interval, holds}
use Rattle.model.specs.Transaction.{Transaction, interval_of_transaction}
use Rattle.model.specs.Rules.{keys_of}
use Rattle.timelock.specs.View.{key_bytes, interval_of}
use Rattle.model.specs.Explaining.{IsFailingAt}
use Rattle.utxo_rules.proofs.Finding.{pass_more, fails_here, all_pass_here}
use Rattle.utxo_rules.proofs.first_witnesses.failing_script.Goals as goal

pub returns-then-not-holds : goal.returns-then-not-holds
returns-then-not-holds g c = λ params utxo slot.
    let holding = holds (map key_bytes c.keys-keys.result.now) (interval_of c.interval-interval.result) in
    let i = c.loop-script.script-index in
    let s = c.script-item.result in
    let bad : holding s ≡ false = search (rules, c.holds.ensures, c.if-not-holds.true) in
    let first = fails_here (λ (x : Script). x) holding c.scripts-scripts.result.now i s c.loop-script-test.true c.script-item.is bad c.loop-script.invariant in
    let plain = subst (λ (ss : List Script). IsFailingAt holding ss i s) (map-id c.scripts-scripts.result.now ∙ c.scripts-scripts.ensures) first in
    let of_keys = subst (λ (keys : List (List ℕ)). IsFailingAt (holds keys (interval_of c.interval-interval.result)) c.tx-tx.result.now.scripts i s) c.keys-keys.ensures plain in
    let of_interval = subst (λ (n : Interval). IsFailingAt (holds (keys_of c.args.checked.now) n) c.tx-tx.result.now.scripts i s) c.interval-interval.ensures of_keys in
    let whole = subst (λ (t : Transaction). IsFailingAt (holds (keys_of c.args.checked.now) (interval_of_transaction t)) t.scripts i s) c.tx-tx.ensures of_interval in
    (refl, (s, (i, whole), c.hash.ensures))

pub loop-script-preserved : goal.loop-script-preserved
loop-script-preserved g c =
    let holding = holds (map key_bytes c.keys-keys.result.now) (interval_of c.interval-interval.result) in
    let here : holding c.script-item.result ≡ true = search (rules, c.holds.ensures, c.if-not-holds.false) in
    pass_more (λ (x : Script). x) holding c.scripts-scripts.result.now c.loop-script.script-index c.script-item.result c.loop-script-test.true c.script-item.is here c.loop-script.invariant

pub returns : goal.returns
returns g c = λ params utxo slot.
    let holding = holds (map key_bytes c.keys-keys.result.now) (interval_of c.interval-interval.result) in
    ap (λ (t : Transaction). list_all (holds (keys_of c.args.checked.now) (interval_of_transaction t)) t.scripts) (sym c.tx-tx.ensures)
    ∙ ap (λ (n : Interval). list_all (holds (keys_of c.args.checked.now) n) c.tx-tx.result.now.scripts) (sym c.interval-interval.ensures)
    ∙ ap (λ (keys : List (List ℕ)). list_all (holds keys (interval_of c.interval-interval.result)) c.tx-tx.result.now.scripts) (sym c.keys-keys.ensures)
    ∙ ap (list_all holding) (sym (map-id c.scripts-scripts.result.now ∙ c.scripts-scripts.ensures))
    ∙ all_pass_here (λ (x : Script). x) holding c.scripts-scripts.result.now c.loop-script.script-index c.loop-script-test.false c.loop-script.invariant
