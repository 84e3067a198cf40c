use Rattle.std.proofs.Common.{◌≡◌, ℕ, zero, suc, ◌-◌, min, List, [], ◌∷◌, length, drop, ap, ◌∙◌, arith}
use Rattle.std.proofs.lemmas.List.{take_all, length-drop}
use Rattle.chain_core.proofs.place.blocks_from.Goals as goal

drop_least : {X : Type 0} (n : ℕ) (xs : List X) → drop (min n (length xs)) xs ≡ drop n xs
drop_least zero xs = let e : min 0 (length xs) ≡ 0 = omega arith in ap (λ (m : ℕ). drop m xs) e
drop_least {X} (suc n) [] = let e : min (suc n) (length {A = X} []) ≡ 0 = omega arith in ap (λ (m : ℕ). drop m []) e
drop_least (suc n) (x ∷ xs) = let e : min (suc n) (length (x ∷ xs)) ≡ suc (min n (length xs)) = omega arith in ap (λ (m : ℕ). drop m (x ∷ xs)) e ∙ drop_least n xs

pub returns : goal.returns
returns g c =
    let chain = c.args.chain.now in
    let less = c.saturating_sub.ensures in
    let least = c.min-skipped.ensures in
    let skipped : c.min-skipped.result ≡ min (c.args.from - 1) (length chain) = omega arith in
    let k = c.min-skipped.result in
    c.iter.ensures.rest ∙ (take_all (length chain - k) (drop k chain) (omega (arith, length-drop k chain)) ∙ ap (λ (n : ℕ). drop n chain) skipped ∙ drop_least (c.args.from - 1) chain)
