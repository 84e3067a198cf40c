-- Lists that stand one behind the other, and what is at their places.
use Rattle.std.proofs.Common.{◌≡◌, ℕ, suc, zero, ◌+◌, ◌-◌, ◌<◌, ◌≤◌, min, List, [], ◌∷◌, ◌++◌, length, take, drop, map, refl, sym, ap, ◌∙◌, arith}
use Rattle.std.proofs.Math.Seq.{take-append_seam, take-append-add, drop-append-add}
use Rattle.std.proofs.lemmas.List.{length-drop, length-map, take_rest, drop_min}
use Rattle.std.specs.Prelude.{slice_get}

pub at_left : {X : Type 0} (xs ys : List X) (i : ℕ) → i < length xs → slice_get (xs ++ ys) i ≡ slice_get xs i
at_left [] ys i below = absurd (omega arith)
at_left (x ∷ xs) ys zero below = refl
at_left (x ∷ xs) ys (suc i) below = at_left xs ys i (omega arith)

pub at_right : {X : Type 0} (xs ys : List X) (i : ℕ) → slice_get (xs ++ ys) (length xs + i) ≡ slice_get ys i
at_right [] ys i = ap (slice_get ys) (let e : 0 + i ≡ i = omega arith in e)
at_right {X} (x ∷ xs) ys i = ap (slice_get (x ∷ (xs ++ ys))) (let e : length (x ∷ xs) + i ≡ suc (length xs + i) = omega arith in e) ∙ at_right xs ys i

-- behind the first list
pub take_behind : {X : Type 0} (xs ys : List X) (n : ℕ) → length xs ≤ n → take n (xs ++ ys) ≡ xs ++ take (n - length xs) ys
take_behind xs ys n behind =
    ap (λ (k : ℕ). take k (xs ++ ys)) (let e : n ≡ length xs + (n - length xs) = omega arith in e) ∙ take-append-add xs ys (n - length xs)

pub drop_behind : {X : Type 0} (xs ys : List X) (n : ℕ) → length xs ≤ n → drop n (xs ++ ys) ≡ drop (n - length xs) ys
drop_behind xs ys n behind =
    ap (λ (k : ℕ). drop k (xs ++ ys)) (let e : n ≡ length xs + (n - length xs) = omega arith in e) ∙ drop-append-add xs ys (n - length xs)

-- what is left of a list that was turned
pub rest_of : {X : Type 0} (n m : ℕ) (xs : List X) → m ≡ length xs → take (m - n) (drop n xs ++ take n xs) ≡ drop n xs
rest_of {X} n m xs size =
    ap (λ (k : ℕ). take k (drop n xs ++ take n xs)) (ap (λ (k : ℕ). k - n) size ∙ sym (length-drop n xs))
    ∙ take-append_seam (drop n xs) (take n xs)

-- lists that two functions make the same have one length
pub same_sizes : {X Y Z : Type 0} (f : X → Z) (g : Y → Z) (xs : List X) (ys : List Y) → map f xs ≡ map g ys → length xs ≡ length ys
same_sizes f g xs ys same = sym (length-map xs f) ∙ ap length same ∙ length-map ys g

-- what is behind the first n of two lists, which are at least all of the first one
pub slice_behind : {X : Type 0} (xs ys : List X) (n k : ℕ) → length xs ≤ n → k ≡ min (n - length xs) (length ys) → take (length ys - k) (drop k ys) ≡ drop n (xs ++ ys)
slice_behind xs ys n k behind least =
    take_rest ys k ∙ ap (λ (m : ℕ). drop m ys) least ∙ drop_min (n - length xs) ys ∙ sym (drop_behind xs ys n behind)
