-- Facts about lists: their last elements, what stands before the last, a map of their first elements, and one that has
-- more behind.
use Rattle.std.proofs.Common.{◌≡◌, ◌⊎◌, ℕ, ◌+◌, ◌-◌, ◌<◌, ◌≤◌, List, [], ◌∷◌, ◌++◌, length, map, take, drop, get_or, refl, sym, ap, subst, ◌∙◌, arith, inl, inr, append-nil}
use Rattle.std.specs.List.{AllByRecursion}
use Rattle.std.proofs.lemmas.List.{map_more, take_more, drop_at, drop-map, length-map, length-drop, length-append, get_or-drop, get_or-map, get_or_append_left}

-- a list has no elements or a last one
pub last_cases : {X : Type 0} (xs : List X) → (xs ≡ []) ⊎ ((front : List X) × (x : X) × (xs ≡ front ++ x ∷ []))
last_cases [] = inl refl
last_cases (x ∷ xs) =
    elim (last_cases xs) [
      | inl none ↦ inr ([], x, ap (λ ys. x ∷ ys) none)
      | inr some ↦ inr (x ∷ some.0, some.1, ap (λ ys. x ∷ ys) some.2)
    ]

-- what is not the last of some elements is one of those before it
pub before_last : {X : Type 0} (P : X → Type 0) (xs ys zs : List X) (last x y : X) → AllByRecursion P xs → xs ++ last ∷ [] ≡ ys ++ x ∷ y ∷ zs → P x
before_last P [] [] zs last x y all is = absurd (let e : [] ≡ y ∷ zs = cc in cc)
before_last P [] (z ∷ []) zs last x y all is = absurd (let e : [] ≡ x ∷ y ∷ zs = cc in cc)
before_last P [] (z ∷ w ∷ ws) zs last x y all is = absurd (let e : [] ≡ w ∷ (ws ++ x ∷ y ∷ zs) = cc in cc)
before_last P (z ∷ xs) [] zs last x y all is = let e : z ≡ x = cc in subst P e all.0
before_last P (z ∷ xs) (w ∷ ys) zs last x y all is = let e : xs ++ last ∷ [] ≡ ys ++ x ∷ y ∷ zs = cc in before_last P xs ys zs last x y all.1 e

-- what holds of each element of a list holds of those of both its parts
pub all_front : {X : Type 0} (P : X → Type 0) (xs ys : List X) → AllByRecursion P (xs ++ ys) → AllByRecursion P xs
all_front P [] ys all = tt
all_front P (x ∷ xs) ys all = (all.0, all_front P xs ys all.1)

pub all_rest : {X : Type 0} (P : X → Type 0) (xs ys : List X) → AllByRecursion P (xs ++ ys) → AllByRecursion P ys
all_rest P [] ys all = all
all_rest P (x ∷ xs) ys all = all_rest P xs ys all.1

-- a map of the first elements and one more
pub map_one_more : {X Y : Type 0} (f : X → Y) (xs : List X) (i : ℕ) (x : X) → i < length xs → x ≡ get_or xs i x → map f (take (i + 1) xs) ≡ map f (take i xs) ++ f x ∷ []
map_one_more f xs i x below is = map_more f xs i x below ∙ ap (λ y. map f (take i xs) ++ f y ∷ []) (sym is)

-- an element of a list whose map has more behind, behind those of the map from a place on
pub one_from : {X Y : Type 0} (f : X → Y) (xs : List X) (ys more : List Y) (from i : ℕ) (x : X) → map f xs ≡ ys ++ more → from ≤ i → i < length ys → x ≡ get_or xs i x
    → take (i + 1 - from) (drop from ys) ≡ take (i - from) (drop from ys) ++ f x ∷ []
one_from f xs ys more from i x is past within at =
    let long : length xs ≡ length ys + length more = sym (length-map xs f) ∙ (ap length is ∙ length-append ys more) in
    let on_list : f x ≡ get_or (map f xs) i (f x) = ap f at ∙ sym (get_or-map f xs i x (f x) (omega (arith, long))) in
    let on_front : get_or (map f xs) i (f x) ≡ get_or ys i (f x) = ap (λ zs. get_or zs i (f x)) is ∙ get_or_append_left ys more (f x) i within in
    let here : get_or (drop from ys) (i - from) (f x) ≡ get_or ys i (f x) = get_or-drop from ys (i - from) (f x) ∙ ap (λ (n : ℕ). get_or ys n (f x)) (omega arith) in
    let left : i - from < length (drop from ys) = omega (arith, length-drop from ys) in
    ap (λ (n : ℕ). take n (drop from ys)) (omega arith)
    ∙ (take_more (drop from ys) (i - from) (f x) left ∙ ap (λ y. take (i - from) (drop from ys) ++ y ∷ []) (here ∙ sym (on_list ∙ on_front)))

-- what a map has behind that of another list
pub mapped_rest : {X Y : Type 0} (f : X → Y) (xs ys : List X) (more : List Y) (n : ℕ) → map f ys ≡ map f xs ++ more → n ≡ length xs → map f (drop n ys) ≡ more
mapped_rest f xs ys more n is long =
    sym (drop-map f n ys) ∙ (ap (drop n) is ∙ drop_at (map f xs) more n (length-map xs f ∙ sym long))

-- where it has nothing behind, it is that one from each place on
pub mapped_same : {X Y : Type 0} (f : X → Y) (xs ys : List X) (more : List Y) (n : ℕ) → map f ys ≡ map f xs ++ more → more ≡ [] → map f (drop n ys) ≡ map f (drop n xs)
mapped_same f xs ys more n is none =
    sym (drop-map f n ys) ∙ (ap (drop n) (is ∙ (ap (λ zs. map f xs ++ zs) none ∙ append-nil (map f xs))) ∙ drop-map f n xs)
