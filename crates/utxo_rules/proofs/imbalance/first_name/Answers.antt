use Rattle.std.proofs.Common.{◌≡◌, ℕ, ℤ, List, ◌∷◌, sym, ap, ◌∙◌}
use Rattle.std.specs.Global.{Vec}
use Rattle.utxo_rules.proofs.Unbalanced.{named, first_of, first_name_found}
use Rattle.utxo_rules.proofs.imbalance.first_name.Goals as goal

pub returns : goal.returns
returns c =
    let start = c.in_ok-first.first.now in
    let rest = c.next.new.self in
    let names : named c.iter-names.result ≡ (start.items, c.in_ok-first.field-0-1.now) ∷ named rest = ap named c.in_ok-first.ensures.steps in
    let found : c.loop-name.first.now ≡ first_of start.items (named rest) =
    ap (λ (es : List (Vec ℕ × ℤ)). first_of c.loop-name.first.now (named es)) (sym c.in_default.ensures.steps.0)
    ∙ c.loop-name.invariant ∙ ap (λ (n : List ℕ). first_of n (named rest)) c.as_slice-first.ensures.value in
    first_name_found _ start.items c.in_ok-first.field-0-1.now (named rest) c.loop-name.first.now (sym (ap named c.iter-names.ensures.rest) ∙ names) found
