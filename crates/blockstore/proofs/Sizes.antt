-- How many bytes blocks have together, where one comes, gets its mark, or goes.
use Rattle.std.proofs.Common.{◌≡◌, ◌≢◌, ◌↔◌, ℕ, ◌+◌, ◌*◌, ◌≤◌, List, [], ◌∷◌, ◌++◌, length, map, Contains, refl, sym, ap, subst, ◌∙◌, arith, inl, inr}
use Rattle.std.specs.List.{All}
use Rattle.std.proofs.lemmas.List.{length-map, length-append}
use Rattle.std.proofs.lemmas.List.Elements.{All-from_recursion}
use Rattle.std.proofs.lemmas.List.Sums.{sum_by-cons, sum_by_push, sum_by-le}
use Rattle.model.specs.Block.{Block, block_text, block_hash_of, bytes_in}
use Rattle.model.specs.Chain.{HaveDistinctHashes}
use Rattle.model.specs.Limits.{block_size_limit}
use Rattle.model.proofs.Lists.{all_from_members, contains_first, contains_later, contains_cases}
use Rattle.model.proofs.MappedLists.{contains_map, contains_before}
use Rattle.model.proofs.Chains.{one_with_hash}
use Rattle.model.proofs.Sets.{distinct_by_count, same_sum}
use Rattle.blockstore.specs.Stored.{Stored}
use Rattle.blockstore.specs.Tests.{marked_at}
use Rattle.blockstore.specs.Shelves.{IsSame}
use Rattle.blockstore.proofs.KeySets.{is_hash}
use Rattle.blockstore.proofs.Lists.{map_push, map_same}
use Rattle.blockstore.proofs.Tests.{same_block}

abbrev block_of : Stored → Block
block_of s = s.block

abbrev pub size_of : Stored → ℕ
size_of s = length (block_text s.block)

abbrev pub bytes_of : List Stored → ℕ
bytes_of xs = bytes_in (map (λ s. s.block) xs)

abbrev pub AreDistinct : List Stored → Type 0
AreDistinct xs = HaveDistinctHashes (map (λ s. s.block) xs)

-- none of them has more than a block may have
abbrev pub AreSized : List Stored → Type 0
AreSized xs = (x : Stored) → Contains xs x → size_of x ≤ block_size_limit

there_too : (xs ys : List Stored) → ((x : Stored) → Contains xs x → Contains ys x) → (b : Block) → Contains (map block_of xs) b → Contains (map block_of ys) b
there_too xs ys within b member = let x = contains_before block_of xs b member in subst (Contains (map block_of ys)) x.2 (contains_map block_of ys x.0 (within x.0 x.1))

distinct_too : (xs ys : List Stored) → IsSame xs ys → AreDistinct xs → AreDistinct ys
distinct_too xs ys same distinct = distinct_by_count (map block_of xs) (map block_of ys) distinct (there_too xs ys (λ x. (same.members x).0)) (there_too ys xs (λ x. (same.members x).1))
    (let count = same.count in omega (arith, length-map xs block_of, length-map ys block_of, count))

pub bytes_same : (xs ys : List Stored) → IsSame xs ys → AreDistinct xs → bytes_of xs ≡ bytes_of ys
bytes_same xs ys same distinct =
    same_sum (λ b. length (block_text b)) (map block_of xs) (map block_of ys) distinct (distinct_too xs ys same distinct) (there_too xs ys (λ x. (same.members x).0)) (there_too ys xs (λ x. (same.members x).1))

-- ---- a block comes

pub bytes_with : (old new : List Stored) (x : Stored) → IsSame new (old ++ x ∷ []) → AreDistinct new → bytes_of new ≡ bytes_of old + size_of x
bytes_with old new x same distinct =
    bytes_same new (old ++ x ∷ []) same distinct ∙ (ap bytes_in (map_push block_of old x) ∙ sum_by_push (λ b. length (block_text b)) (map block_of old) x.block)

-- ---- a block gets its mark

pub bytes_marked : (old new : List Stored) (hash : List ℕ) → IsSame new (map (marked_at hash) old) → AreDistinct new → bytes_of new ≡ bytes_of old
bytes_marked old new hash same distinct = bytes_same new (map (marked_at hash) old) same distinct ∙ ap bytes_in (map_same block_of (marked_at hash) old (same_block hash))

pub sized_marked : (old new : List Stored) (hash : List ℕ) → IsSame new (map (marked_at hash) old) → AreSized old → AreSized new
sized_marked old new hash same sized x member =
    let y = contains_before (marked_at hash) old x ((same.members x).0 member) in
    let block : y.0.block ≡ x.block = sym (same_block hash y.0) ∙ ap block_of y.2 in
    subst (λ (b : Block). length (block_text b) ≤ block_size_limit) block (sized y.0 y.1)

-- ---- a block goes

pub bytes_without : (old new : List Stored) (x : Stored) → Contains old x → AreDistinct old → AreDistinct new → ((y : Stored) → Contains new y ↔ (Contains old y × (block_hash_of y.block ≢ block_hash_of x.block)))
    → bytes_of old ≡ size_of x + bytes_of new
bytes_without old new x there distinct left_distinct left =
    same_sum (λ b. length (block_text b)) (map block_of old) (x.block ∷ map block_of new) distinct
    (all_from_members (λ c. block_hash_of c ≢ block_hash_of x.block) (map block_of new) apart, left_distinct) out back
    ∙ sum_by-cons (λ b. length (block_text b)) x.block (map block_of new)
  where
    apart : (c : Block) → Contains (map block_of new) c → block_hash_of c ≢ block_hash_of x.block
    apart c member same = let y = contains_before block_of new c member in ((left y.0).0 y.1).1 (ap block_hash_of y.2 ∙ same)

    out : (b : Block) → Contains (map block_of old) b → Contains (x.block ∷ map block_of new) b
    out b member =
        let y = contains_before block_of old b member in
        elim (is_hash (block_hash_of x.block) (block_hash_of b)) [
          | inl same ↦ subst (Contains (x.block ∷ map block_of new)) (one_with_hash (map block_of old) x.block b distinct (contains_map block_of old x there) member (sym same)) (contains_first x.block (map block_of new))
          | inr other ↦ contains_later x.block (map block_of new) b
              (subst (Contains (map block_of new)) y.2 (contains_map block_of new y.0 ((left y.0).1 (y.1, λ same. other (ap block_hash_of (sym y.2) ∙ same)))))
        ]

    back : (b : Block) → Contains (x.block ∷ map block_of new) b → Contains (map block_of old) b
    back b member = elim (contains_cases x.block (map block_of new) b member) [
      | inl is ↦ subst (Contains (map block_of old)) is (contains_map block_of old x there)
      | inr later ↦ there_too new old (λ y is. ((left y).0 is).0) b later
    ]

-- ---- how many they are at most

pub bytes_bounded : (xs : List Stored) → AreSized xs → bytes_of xs ≤ length xs * block_size_limit
bytes_bounded xs sized =
    let each : All (λ b. length (block_text b) ≤ block_size_limit) (map block_of xs) = All-from_recursion (λ b. length (block_text b) ≤ block_size_limit) (map block_of xs)
    (all_from_members (λ b. length (block_text b) ≤ block_size_limit) (map block_of xs)
    (λ b member. let x = contains_before block_of xs b member in subst (λ (c : Block). length (block_text c) ≤ block_size_limit) x.2 (sized x.0 x.1))) in
    subst (λ n. bytes_of xs ≤ n * block_size_limit) (length-map xs block_of) (sum_by-le (λ b. length (block_text b)) block_size_limit (map block_of xs) each)
