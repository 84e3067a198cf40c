-- What is left of blocks where those of a hash are discarded.
use Rattle.std.proofs.Common.{◌≡◌, ◌≢◌, ◌↔◌, ℕ, Bool, true, false, cond, List, [], ◌∷◌, Contains, refl}
use Rattle.std.specs.Prelude.{bytes_eq, not}
use Rattle.std.specs.List.{AllByRecursion, filter}
use Rattle.std.proofs.lemmas.Slice.Eq.{bytes_eq-Decides}
use Rattle.model.specs.Block.{Block, block_hash_of}
use Rattle.model.specs.Chain.{HaveDistinctHashes}
use Rattle.model.specs.History.{without_hash}
use Rattle.model.proofs.Lists.{contains_filter}
use Rattle.model.proofs.MappedLists.{filter_member}

other_if_not : (P : Type 0) (t : Bool) → (t ≡ true) ↔ P → not t ≡ true → P → ⊥
other_if_not P true decides passes p = absurd (let e : false ≡ true = passes in cc)
other_if_not P false decides passes p = absurd (let e : false ≡ true = decides.1 p in cc)

not_if_other : (P : Type 0) (t : Bool) → (t ≡ true) ↔ P → (P → ⊥) → not t ≡ true
not_if_other P true decides other = absurd (other (decides.0 refl))
not_if_other P false decides other = refl

-- a block that is left was there, and has another hash
pub without_member : (hash : List ℕ) (bs : List Block) (b : Block) → Contains (without_hash hash bs) b → Contains bs b × (block_hash_of b ≢ hash)
without_member hash bs b member =
    let found = filter_member (λ c. not (bytes_eq (block_hash_of c) hash)) bs b member in
    (found.0, other_if_not (block_hash_of b ≡ hash) (bytes_eq (block_hash_of b) hash) (bytes_eq-Decides (block_hash_of b) hash) found.1)

-- and one with another hash is left
pub left_without : (hash : List ℕ) (bs : List Block) (b : Block) → Contains bs b → block_hash_of b ≢ hash → Contains (without_hash hash bs) b
left_without hash bs b member other = contains_filter (λ c. not (bytes_eq (block_hash_of c) hash)) bs b member (not_if_other (block_hash_of b ≡ hash) (bytes_eq (block_hash_of b) hash) (bytes_eq-Decides (block_hash_of b) hash) other)

-- what holds of each that passes a test holds of each that passes another one too
all_passing : {X : Type 0} (P : X → Type 0) (p q : X → Bool) (xs : List X) → AllByRecursion P (filter p xs) → AllByRecursion P (filter p (filter q xs))
all_passing P p q [] all = tt
all_passing P p q (x ∷ xs) all = at (q x) all (all_passing P p q xs)
  where
    rest : (c : Bool) → AllByRecursion P (cond c (x ∷ filter p xs) (filter p xs)) → AllByRecursion P (filter p xs)
    rest true a = a.1
    rest false a = a

    both : (c : Bool) → AllByRecursion P (cond c (x ∷ filter p xs) (filter p xs)) → (AllByRecursion P (filter p xs) → AllByRecursion P (filter p (filter q xs))) → AllByRecursion P (cond c (x ∷ filter p (filter q xs)) (filter p (filter q xs)))
    both true a more = (a.0, more a.1)
    both false a more = more a

    at : (c : Bool) → AllByRecursion P (cond (p x) (x ∷ filter p xs) (filter p xs)) → (AllByRecursion P (filter p xs) → AllByRecursion P (filter p (filter q xs))) → AllByRecursion P (filter p (cond c (x ∷ filter q xs) (filter q xs)))
    at true a more = both (p x) a more
    at false a more = more (rest (p x) a)

-- of blocks whose hashes differ, fewer have hashes that differ
pub distinct_passing : (p q : Block → Bool) (bs : List Block) → HaveDistinctHashes (filter p bs) → HaveDistinctHashes (filter p (filter q bs))
distinct_passing p q [] distinct = tt
distinct_passing p q (x ∷ xs) distinct = at (q x) distinct (distinct_passing p q xs)
  where
    rest : (c : Bool) → HaveDistinctHashes (cond c (x ∷ filter p xs) (filter p xs)) → HaveDistinctHashes (filter p xs)
    rest true d = d.1
    rest false d = d

    both : (c : Bool) → HaveDistinctHashes (cond c (x ∷ filter p xs) (filter p xs)) → (HaveDistinctHashes (filter p xs) → HaveDistinctHashes (filter p (filter q xs))) → HaveDistinctHashes (cond c (x ∷ filter p (filter q xs)) (filter p (filter q xs)))
    both true d more = (all_passing (λ c. block_hash_of c ≢ block_hash_of x) p q xs d.0, more d.1)
    both false d more = more d

    at : (c : Bool) → HaveDistinctHashes (cond (p x) (x ∷ filter p xs) (filter p xs)) → (HaveDistinctHashes (filter p xs) → HaveDistinctHashes (filter p (filter q xs))) → HaveDistinctHashes (filter p (cond c (x ∷ filter q xs) (filter q xs)))
    at true d more = both (p x) d more
    at false d more = more (rest (p x) d)
