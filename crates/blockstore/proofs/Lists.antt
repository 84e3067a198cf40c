-- Members of lists that were mapped or filtered, and distinct hashes in what is left of a list.
use Rattle.std.proofs.Common.{◌≡◌, ◌≢◌, ◌≤◌, Bool, true, false, cond, List, [], ◌∷◌, ◌++◌, length, map, refl, sym, ap, arith}
use Rattle.std.specs.List.{AllByRecursion, filter}
use Rattle.model.specs.Block.{Block, block_hash_of}
use Rattle.model.specs.Chain.{HaveDistinctHashes}
use Rattle.model.proofs.Lists.{all_push}

-- a test of what each element is mapped to
pub map_filter : {X Y : Type 0} (f : X → Y) (q : Y → Bool) (xs : List X) → map f (filter (λ x. q (f x)) xs) ≡ filter q (map f xs)
map_filter f q [] = refl
map_filter f q (x ∷ xs) = one (q (f x)) (map_filter f q xs)
  where
    one : (t : Bool) → map f (filter (λ y. q (f y)) xs) ≡ filter q (map f xs)
        → map f (cond t (x ∷ filter (λ y. q (f y)) xs) (filter (λ y. q (f y)) xs)) ≡ cond t (f x ∷ filter q (map f xs)) (filter q (map f xs))
    one true more = ap (λ ys. f x ∷ ys) more
    one false more = more

-- two maps, one after the other, where the first changes nothing of what the second looks at
pub map_same : {X Y : Type 0} (f : X → Y) (h : X → X) (xs : List X) → ((x : X) → f (h x) ≡ f x) → map f (map h xs) ≡ map f xs
map_same f h [] same = refl
map_same f h (x ∷ xs) same = λ i. same x i ∷ map_same f h xs same i

pub map_push : {X Y : Type 0} (f : X → Y) (xs : List X) (x : X) → map f (xs ++ x ∷ []) ≡ map f xs ++ f x ∷ []
map_push f [] x = refl
map_push f (y ∷ ys) x = ap (λ zs. f y ∷ zs) (map_push f ys x)

pub all_filter : {X : Type 0} (P : X → Type 0) (p : X → Bool) (xs : List X) → AllByRecursion P xs → AllByRecursion P (filter p xs)
all_filter P p [] all = tt
all_filter P p (x ∷ xs) all = one (p x) (all_filter P p xs all.1)
  where
    one : (t : Bool) → AllByRecursion P (filter p xs) → AllByRecursion P (cond t (x ∷ filter p xs) (filter p xs))
    one true more = (all.0, more)
    one false more = more

pub all_map : {X Y : Type 0} (P : Y → Type 0) (f : X → Y) (xs : List X) → AllByRecursion (λ x. P (f x)) xs → AllByRecursion P (map f xs)
all_map P f [] all = tt
all_map P f (x ∷ xs) all = (all.0, all_map P f xs all.1)

pub distinct_filter : (q : Block → Bool) (bs : List Block) → HaveDistinctHashes bs → HaveDistinctHashes (filter q bs)
distinct_filter q [] distinct = tt
distinct_filter q (x ∷ xs) distinct = one (q x) (distinct_filter q xs distinct.1)
  where
    one : (t : Bool) → HaveDistinctHashes (filter q xs) → HaveDistinctHashes (cond t (x ∷ filter q xs) (filter q xs))
    one true more = (all_filter (λ c. block_hash_of c ≢ block_hash_of x) q xs distinct.0, more)
    one false more = more

pub distinct_push : (bs : List Block) (b : Block) → HaveDistinctHashes bs → AllByRecursion (λ c. block_hash_of c ≢ block_hash_of b) bs → HaveDistinctHashes (bs ++ b ∷ [])
distinct_push [] b distinct apart = (tt, tt)
distinct_push (x ∷ xs) b distinct apart =
    (all_push (λ c. block_hash_of c ≢ block_hash_of x) xs b distinct.0 (λ same. apart.0 (sym same)), distinct_push xs b distinct.1 apart.1)

pub no_longer : {X : Type 0} (p : X → Bool) (xs : List X) → length (filter p xs) ≤ length xs
no_longer p [] = omega arith
no_longer p (x ∷ xs) = one (p x) (no_longer p xs)
  where
    one : (t : Bool) → length (filter p xs) ≤ length xs → length (cond t (x ∷ filter p xs) (filter p xs)) ≤ length (x ∷ xs)
    one true more = omega arith
    one false more = omega arith
