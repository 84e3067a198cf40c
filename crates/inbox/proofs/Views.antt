-- What all passes know, when one changes or one is added.
use Rattle.std.proofs.Common.{◌≡◌, ◌≢◌, ◌⊎◌, ℕ, zero, suc, List, [], ◌∷◌, ◌++◌, length, set, refl, sym, ap, subst, inl, inr, ⊎_elim}
use mathlib.Core.Option.{some, some-injective, some-ne-none}
use lib.ListN.{get_elem?}
use Rattle.atomic_table.proofs.Lists.{at_set}
use Rattle.inbox.specs.Arrivals.{Arrival}
use Rattle.inbox.specs.Rule.{PassView, Fits}

abbrev pub AllFit : List Arrival → List Arrival → List ℕ → List PassView → Type 0
AllFit log taken ends views = (by : ℕ) (v : PassView) → get_elem? views by ≡ some v → Fits log taken ends by v

pub fits_set : (log taken : List Arrival) (ends : List ℕ) (views : List PassView) (id : ℕ) (w : PassView)
    → ((by : ℕ) (u : PassView) → by ≢ id → get_elem? views by ≡ some u → Fits log taken ends by u)
    → Fits log taken ends id w → AllFit log taken ends (set views id w)
fits_set log taken ends views id w others mine by u at =
    ⊎_elim
    (λ (x : (by ≡ id) × (w ≡ u)). subst (λ (y : ℕ × PassView). Fits log taken ends y.0 y.1) (λ i. (sym x.0 i, x.1 i)) mine)
    (λ (x : (by ≢ id) × (get_elem? views by ≡ some u)). others by u x.0 x.1)
    (at_set views id by w u at)

at_push : (views : List PassView) (w u : PassView) (by : ℕ) → get_elem? (views ++ w ∷ []) by ≡ some u → (get_elem? views by ≡ some u) ⊎ ((by ≡ length views) × (w ≡ u))
at_push [] w u zero at = inr (refl, some-injective w u at)
at_push [] w u (suc by) at = absurd (some-ne-none u (sym at))
at_push (x ∷ xs) w u zero at = inl at
at_push (x ∷ xs) w u (suc by) at = ⊎_elim inl (λ t. inr (ap suc t.0, t.1)) (at_push xs w u by at)

pub fits_push : (log taken : List Arrival) (ends : List ℕ) (views : List PassView) (w : PassView)
    → AllFit log taken ends views → Fits log taken ends (length views) w → AllFit log taken ends (views ++ w ∷ [])
fits_push log taken ends views w all mine by u at =
    ⊎_elim
    (λ (was : get_elem? views by ≡ some u). all by u was)
    (λ (x : (by ≡ length views) × (w ≡ u)). subst (λ (y : ℕ × PassView). Fits log taken ends y.0 y.1) (λ i. (sym x.0 i, x.1 i)) mine)
    (at_push views w u by at)
