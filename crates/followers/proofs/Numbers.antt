-- A new follower at the least free number, and places that are gone through one by one.
use Rattle.std.proofs.Common.{◌≡◌, ℕ, zero, suc, ◌+◌, ◌<◌, ◌≤◌, List, [], ◌∷◌, ◌++◌, length, take, drop, map, Option, Some, None, slice_index_or, slice_set, refl, ap, ◌∙◌, arith}
use Rattle.model.specs.Follower.{free_id, with_first_free}

-- a new one at a free number that there is, and behind them all
pub first_free_set : {X : Type 0} (ps : List (Option X)) (new : X) → free_id ps < length ps → slice_set ps (free_id ps) (Some new) ≡ with_first_free new ps
first_free_set [] new below = absurd (omega arith)
first_free_set (None ∷ ps) new below = refl
first_free_set (Some p ∷ ps) new below = ap (λ qs. Some p ∷ qs) (first_free_set ps new (omega arith))

pub first_free_pushed : {X : Type 0} (ps : List (Option X)) (new : X) → length ps ≤ free_id ps → ps ++ Some new ∷ [] ≡ with_first_free new ps
first_free_pushed [] new past = refl
first_free_pushed (None ∷ ps) new past = absurd (omega arith)
first_free_pushed (Some p ∷ ps) new past = ap (λ qs. Some p ∷ qs) (first_free_pushed ps new (omega arith))

-- one more is changed
pub changed_one : {X : Type 0} (f : X → X) (xs : List X) (i : ℕ) (d : X) → i < length xs
    → slice_set (map f (take i xs) ++ drop i xs) i (f (slice_index_or (map f (take i xs) ++ drop i xs) i d)) ≡ map f (take (suc i) xs) ++ drop (suc i) xs
changed_one f [] i d below = absurd (omega arith)
changed_one f (x ∷ xs) zero d below = refl
changed_one f (x ∷ xs) (suc i) d below = ap (λ ys. f x ∷ ys) (changed_one f xs i d (omega arith))

pub all_changed : {X : Type 0} (f : X → X) (xs : List X) (i : ℕ) → length xs ≤ i → map f (take i xs) ++ drop i xs ≡ map f xs
all_changed f [] zero past = refl
all_changed f [] (suc i) past = refl
all_changed f (x ∷ xs) zero past = absurd (omega arith)
all_changed f (x ∷ xs) (suc i) past = ap (λ ys. f x ∷ ys) (all_changed f xs i (omega arith))

pub changed_next : {X : Type 0} (f : X → X) (xs now : List X) (i : ℕ) (d x : X) → i < length xs → now ≡ map f (take i xs) ++ drop i xs → d ≡ slice_index_or now i d → x ≡ f d → slice_set now i x ≡ map f (take (i + 1) xs) ++ drop (i + 1) xs
changed_next f xs now i d x below is at changed =
    let count : suc i ≡ i + 1 = omega arith in
    let value : x ≡ f (slice_index_or (map f (take i xs) ++ drop i xs) i d) = changed ∙ ap f (at ∙ ap (λ ys. slice_index_or ys i d) is) in
    (λ j. slice_set (is j) i (value j)) ∙ (changed_one f xs i d below ∙ ap (λ n. map f (take n xs) ++ drop n xs) count)
