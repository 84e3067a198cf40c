-- Lists that go on, block by block.
use Rattle.std.proofs.Common.{◌≡◌, ℕ, ◌+◌, ◌<◌, List, [], ◌∷◌, ◌++◌, length, take, map, sym, ap, ◌∙◌, slice_index_or, append_assoc}
use Rattle.std.proofs.lemmas.List.{take_more, map-append}

pub noted_more : {X Y : Type 0} (f : X → Y) (start : List Y) (xs : List X) (i : ℕ) (x : X) (now : List Y) → i < length xs → x ≡ slice_index_or xs i x → now ≡ start ++ map f (take i xs) → now ++ f x ∷ [] ≡ start ++ map f (take (i + 1) xs)
noted_more {X} {Y} f start xs i x now below is so =
    let more : take (i + 1) xs ≡ take i xs ++ x ∷ [] = take_more xs i x below ∙ ap (λ (y : X). take i xs ++ y ∷ []) (sym is) in
    ap (λ (l : List Y). l ++ f x ∷ []) so ∙ append_assoc start (map f (take i xs)) (f x ∷ [])
    ∙ ap (λ (l : List Y). start ++ l) (sym (map-append f (take i xs) (x ∷ [])) ∙ ap (map f) (sym more))

pub blocks_more : {X : Type 0} (start xs : List X) (i : ℕ) (x : X) (now : List X) → i < length xs → x ≡ slice_index_or xs i x → now ≡ start ++ take i xs → now ++ x ∷ [] ≡ start ++ take (i + 1) xs
blocks_more {X} start xs i x now below is so =
    let more : take (i + 1) xs ≡ take i xs ++ x ∷ [] = take_more xs i x below ∙ ap (λ (y : X). take i xs ++ y ∷ []) (sym is) in
    ap (λ (l : List X). l ++ x ∷ []) so ∙ append_assoc start (take i xs) (x ∷ []) ∙ ap (λ (l : List X). start ++ l) (sym more)
