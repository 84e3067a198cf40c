-- The views of all seats, when one changes or one is added.
use Rattle.std.proofs.Common.{◌≡◌, ◌≢◌, ◌⊎◌, ℕ, zero, suc, List, [], ◌∷◌, ◌++◌, length, set, true, false, true≢false, refl, sym, ap, subst, inl, inr, ⊎_elim}
use mathlib.Core.Option.{some, some-injective, some-ne-none}
use lib.ListN.{get_elem?}
use Rattle.atomic_table.proofs.Lists.{at_set}
use Rattle.shared.specs.Starts.{Start}
use Rattle.model.specs.Journal.{Journal}
use Rattle.shared.specs.Heights.{Spent, SeatView, Fits}

-- a seat that still serves fits
abbrev pub FitsAt : Start → Journal → ℕ → ℕ → List ℕ → ℕ → SeatView → Type 0
FitsAt start log writer dealer seats by v = (v.role ≡ Spent → ⊥) → Fits start log writer dealer seats by v

abbrev pub AllFit : Start → Journal → ℕ → ℕ → List ℕ → List SeatView → Type 0
AllFit start log writer dealer seats views =
    (by : ℕ) (v : SeatView) → get_elem? views by ≡ some v → FitsAt start log writer dealer seats by v

pub off : false ≡ true → ⊥
off e = true≢false (sym e)

pub fits_set : (start : Start) (log : Journal) (writer dealer : ℕ) (seats : List ℕ) (views : List SeatView) (id : ℕ) (w : SeatView)
    → ((by : ℕ) (u : SeatView) → by ≢ id → get_elem? views by ≡ some u → FitsAt start log writer dealer seats by u)
    → FitsAt start log writer dealer seats id w → AllFit start log writer dealer seats (set views id w)
fits_set start log writer dealer seats views id w others mine by u at =
    ⊎_elim
    (λ (x : (by ≡ id) × (w ≡ u)). subst (λ (y : ℕ × SeatView). FitsAt start log writer dealer seats y.0 y.1) (λ i. (sym x.0 i, x.1 i)) mine)
    (λ (x : (by ≢ id) × (get_elem? views by ≡ some u)). others by u x.0 x.1)
    (at_set views id by w u at)

at_push : (views : List SeatView) (w u : SeatView) (by : ℕ) → get_elem? (views ++ w ∷ []) by ≡ some u → (get_elem? views by ≡ some u) ⊎ ((by ≡ length views) × (w ≡ u))
at_push [] w u zero at = inr (refl, some-injective w u at)
at_push [] w u (suc by) at = absurd (some-ne-none u (sym at))
at_push (x ∷ xs) w u zero at = inl at
at_push (x ∷ xs) w u (suc by) at = ⊎_elim inl (λ t. inr (ap suc t.0, t.1)) (at_push xs w u by at)

pub fits_push : (start : Start) (log : Journal) (writer dealer : ℕ) (seats : List ℕ) (views : List SeatView) (w : SeatView)
    → AllFit start log writer dealer seats views → FitsAt start log writer dealer seats (length views) w
    → AllFit start log writer dealer seats (views ++ w ∷ [])
fits_push start log writer dealer seats views w all mine by u at =
    ⊎_elim
    (λ (was : get_elem? views by ≡ some u). all by u was)
    (λ (x : (by ≡ length views) × (w ≡ u)). subst (λ (y : ℕ × SeatView). FitsAt start log writer dealer seats y.0 y.1) (λ i. (sym x.0 i, x.1 i)) mine)
    (at_push views w u by at)

pub length_set_view : (views : List SeatView) (id : ℕ) (w : SeatView) → length (set views id w) ≡ length views
length_set_view [] id w = refl
length_set_view (x ∷ xs) zero w = refl
length_set_view (x ∷ xs) (suc id) w = ap suc (length_set_view xs id w)
