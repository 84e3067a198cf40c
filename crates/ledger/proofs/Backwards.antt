-- How what blocks change is undone.
use Rattle.std.proofs.Common.{◌≡◌, ℕ, ◌+◌, ◌-◌, ◌<◌, ◌≤◌, List, [], ◌∷◌, ◌++◌, length, drop, get_or, refl, sym, ap, ◌∙◌, arith}
use Rattle.std.proofs.lemmas.List.{drop_all}
use Rattle.cbor.proofs.ForCallers.{drop_here}
use Rattle.model.specs.Utxo.{Utxo}
use Rattle.utxo_rules.specs.Diffs.{Diff, undone}
use Rattle.ledger.specs.BlockDiffs.{all_undone}

-- one more transaction
undone_push : (ds : List Diff) (d : Diff) (u : Utxo) → all_undone (ds ++ d ∷ []) u ≡ all_undone ds (undone d u)
undone_push [] d u = refl
undone_push (x ∷ xs) d u = ap (undone x) (undone_push xs d u)

pub one_more : (ds more : List Diff) (d : Diff) (old now new : Utxo) → more ≡ ds ++ d ∷ [] → undone d new ≡ now → all_undone ds now ≡ old → all_undone more new ≡ old
one_more ds more d old now new is back before = ap (λ (xs : List Diff). all_undone xs new) is ∙ undone_push ds d new ∙ ap (all_undone ds) back ∙ before

-- ---- how a loop undoes them

pub none_back : (ds : List Diff) (u : Utxo) → u ≡ all_undone (drop (length ds - 0) ds) u
none_back ds u = sym (ap (λ (xs : List Diff). all_undone xs u) (drop_all (length ds - 0) ds (omega arith)))

pub one_back : (ds : List Diff) (old now new : Utxo) (done at : ℕ) (d : Diff) → done < length ds → at ≡ length ds - 1 - done → d ≡ get_or ds at d → now ≡ all_undone (drop (length ds - done) ds) old → new ≡ undone d now
    → new ≡ all_undone (drop (length ds - (done + 1)) ds) old
one_back ds old now new done at d lt place is before back =
    let next : at + 1 ≡ length ds - done = omega (arith, lt, place) in
    let here : at ≡ length ds - (done + 1) = omega (arith, lt, place) in
    back ∙ ap (undone d) before ∙ ap (λ (n : ℕ). undone d (all_undone (drop n ds) old)) (sym next)
    ∙ ap (λ (xs : List Diff). all_undone xs old) (sym (drop_here ds at d (omega (arith, lt, place)) is))
    ∙ ap (λ (n : ℕ). all_undone (drop n ds) old) here

pub all_back : (ds : List Diff) (old now : Utxo) (done : ℕ) → length ds ≤ done → now ≡ all_undone (drop (length ds - done) ds) old → now ≡ all_undone ds old
all_back ds old now done le is = let none : length ds - done ≡ 0 = omega (arith, le) in is ∙ ap (λ (n : ℕ). all_undone (drop n ds) old) none
