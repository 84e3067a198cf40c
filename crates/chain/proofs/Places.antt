-- Blocks by their numbers, and where the first blocks of a chain end.
use Rattle.std.proofs.Common.{◌≡◌, ℕ, suc, zero, ◌+◌, ◌-◌, ◌<◌, ◌≤◌, min, List, [], ◌∷◌, ◌++◌, length, take, map, refl, sym, ap, ◌∙◌, inl, inr, arith}
use Rattle.std.specs.Prelude.{slice_get, Some, None, option_map, unwrap_or, replicate}
use Rattle.std.proofs.lemmas.Bool.{cases_lt}
use Rattle.std.proofs.lemmas.List.{length-append, length-take-le, take-append-le, take_min}
use Rattle.std.proofs.lemmas.Option.{same_Some, none-some, slice_get_within, slice_get_past, slice_get-map}
use Rattle.model.specs.Block.{Block, block_hash_of}
use Rattle.model.specs.Chain.{Tip, tip_at, genesis_tip, tip_after, tip_point, IsLinked}
use Rattle.model.proofs.Chains.{tip_after-append, tip_number}
use Rattle.chain.specs.Chained.{block_numbered}
use Rattle.ident.specs.Kinds.{BlockHash}
use Rattle.block.specs.View.{bytes_of}
use Rattle.chain.proofs.Lists.{at_left, at_right, same_sizes}

-- ---- blocks by their numbers

-- the block of a number that isn't 0
pub numbered : (chain : List Block) (n : ℕ) → 0 < n → block_numbered chain n ≡ slice_get chain (n - 1)
numbered chain zero some = absurd (omega arith)
numbered chain (suc n) some = ap (slice_get chain) (let e : n ≡ suc n - 1 = omega arith in e)

-- behind the first blocks
pub numbered_behind : (gone resident : List Block) (n : ℕ) → length gone < n → block_numbered (gone ++ resident) n ≡ slice_get resident (n - length gone - 1)
numbered_behind gone resident n behind =
    numbered (gone ++ resident) n (omega arith)
    ∙ ap (slice_get (gone ++ resident)) (let e : n - 1 ≡ length gone + (n - length gone - 1) = omega arith in e)
    ∙ at_right gone resident (n - length gone - 1)

-- among them
pub numbered_within : (gone resident : List Block) (n : ℕ) → 0 < n → n ≤ length gone → block_numbered (gone ++ resident) n ≡ slice_get gone (n - 1)
numbered_within gone resident n some within = numbered (gone ++ resident) n some ∙ at_left gone resident (n - 1) (omega arith)

-- a number past the chain is no block's
pub numbered_past : (chain : List Block) (n : ℕ) → length chain < n → block_numbered chain n ≡ None
numbered_past chain n past = numbered chain n (omega arith) ∙ slice_get_past chain (n - 1) (omega arith)

-- one within it is
pub numbered_there : (chain : List Block) (n : ℕ) → 0 < n → n ≤ length chain → (b : Block) × (block_numbered chain n ≡ Some b)
numbered_there [] n some within = absurd (omega arith)
numbered_there (x ∷ xs) zero some within = absurd (omega arith)
numbered_there (x ∷ xs) (suc n) some within = there (x ∷ xs) n (omega arith)
  where
    there : (bs : List Block) (i : ℕ) → i < length bs → (b : Block) × (slice_get bs i ≡ Some b)
    there [] i below = absurd (omega arith)
    there (c ∷ cs) zero below = (c, refl)
    there (c ∷ cs) (suc i) below = there cs i (omega arith)

pub numbered_is_within : (chain : List Block) (n : ℕ) (b : Block) → block_numbered chain n ≡ Some b → (0 < n) × (n ≤ length chain)
numbered_is_within chain zero b is = absurd (none-some b is)
numbered_is_within chain (suc n) b is = let below = slice_get_within chain n b is in (omega arith, omega arith)

-- ---- where chains end

-- a chain ends at its last block
pub tip_of_last : (tip : Tip) (bs : List Block) (b : Block) → slice_get bs (length bs - 1) ≡ Some b → tip_after tip bs ≡ tip_at b
tip_of_last tip [] b last = absurd (none-some b last)
tip_of_last tip (x ∷ []) b last = ap tip_at (same_Some x b last)
tip_of_last tip (x ∷ y ∷ ys) b last =
    let step : suc (length (y ∷ ys) - 1) ≡ length (x ∷ y ∷ ys) - 1 = omega arith in
    tip_of_last (tip_at x) (y ∷ ys) b (ap (slice_get (x ∷ y ∷ ys)) step ∙ last)

-- a chain ends where what is behind its first blocks does
pub tip_behind : (gone resident : List Block) → (0 < length gone → 0 < length resident) → tip_after genesis_tip resident ≡ tip_after genesis_tip (gone ++ resident)
tip_behind [] resident some = refl
tip_behind (g ∷ gs) [] some = absurd (let h : 0 < 0 = some (omega arith) in omega arith)
tip_behind (g ∷ gs) (x ∷ xs) some = sym (tip_after-append genesis_tip (g ∷ gs) (x ∷ xs))

tip_of_place : (tip : Tip) (bs : List Block) (place : ℕ) (b : Block) → slice_get bs place ≡ Some b → tip_after tip (take (suc place) bs) ≡ tip_at b
tip_of_place tip [] place b is = absurd (none-some b is)
tip_of_place tip (x ∷ xs) zero b is = ap tip_at (same_Some x b is)
tip_of_place tip (x ∷ xs) (suc place) b is = tip_of_place (tip_at x) xs place b is

-- the first blocks end at the last of them
pub tip_of_numbered : (chain : List Block) (n : ℕ) (b : Block) → block_numbered chain n ≡ Some b → tip_after genesis_tip (take n chain) ≡ tip_at b
tip_of_numbered chain zero b is = absurd (none-some b is)
tip_of_numbered chain (suc n) b is = tip_of_place genesis_tip chain n b is

pub point_of_numbered : (chain : List Block) (n : ℕ) (b : Block) → block_numbered chain n ≡ Some b → tip_point (take n chain) ≡ record { number = b.header.number; hash = block_hash_of b }
point_of_numbered chain n b is = ap (λ (t : Tip). record { number = t.number; hash = unwrap_or t.hash (replicate 32 0) }) (tip_of_numbered chain n b is)

-- the first blocks of a linked chain have the numbers of their places
pub number_of_place : (gone resident : List Block) (n : ℕ) (b : Block) → IsLinked genesis_tip gone → n ≤ length gone → block_numbered (gone ++ resident) n ≡ Some b → b.header.number ≡ n
number_of_place gone resident n b linked within is =
    let front : tip_after genesis_tip (take n gone) ≡ tip_at b = ap (λ bs. tip_after genesis_tip bs) (sym (take-append-le n gone resident within)) ∙ tip_of_numbered (gone ++ resident) n b is in
    let count : (tip_after genesis_tip (take n gone)).number ≡ 0 + length (take n gone) = tip_number genesis_tip (take n gone) (linked_take genesis_tip n gone linked) in
    let size : length (take n gone) ≡ n = length-take-le n gone within in
    let same : (tip_after genesis_tip (take n gone)).number ≡ b.header.number = ap (λ (t : Tip). t.number) front in
    omega arith
  where
    linked_take : (tip : Tip) (n : ℕ) (bs : List Block) → IsLinked tip bs → IsLinked tip (take n bs)
    linked_take tip zero bs linked = tt
    linked_take tip (suc n) [] linked = tt
    linked_take tip (suc n) (x ∷ xs) linked = (linked.0, linked_take (tip_at x) n xs linked.1)

-- ---- blocks that left memory, by their hashes

-- the hash at a place is that of the block there
pub hash_within : (gone resident : List Block) (hashes : List BlockHash) (n : ℕ) → map bytes_of hashes ≡ map block_hash_of gone → 0 < n → n ≤ length gone
    → option_map bytes_of (slice_get hashes (n - 1)) ≡ option_map block_hash_of (block_numbered (gone ++ resident) n)
hash_within gone resident hashes n same some within =
    sym (slice_get-map bytes_of hashes (n - 1)) ∙ ap (λ (l : List (List ℕ)). slice_get l (n - 1)) same ∙ slice_get-map block_hash_of gone (n - 1)
    ∙ ap (option_map block_hash_of) (sym (numbered_within gone resident n some within))

-- also past them, where there is no block
pub hash_at_place : (gone resident : List Block) (hashes : List BlockHash) (n : ℕ) → map bytes_of hashes ≡ map block_hash_of gone → 0 < n
    → (length gone < n → block_numbered (gone ++ resident) n ≡ None)
    → option_map bytes_of (slice_get hashes (n - 1)) ≡ option_map block_hash_of (block_numbered (gone ++ resident) n)
hash_at_place gone resident hashes n same some past =
    elim (cases_lt (length gone) n) [
      | inl behind ↦
          let size : length hashes ≡ length gone = same_sizes bytes_of block_hash_of hashes gone same in
          ap (option_map bytes_of) (slice_get_past hashes (n - 1) (omega arith)) ∙ ap (option_map block_hash_of) (sym (past behind))
      | inr within ↦ hash_within gone resident hashes n same some within
    ]

-- the point at a place
pub point_of_gone : (gone resident : List Block) (hashes : List BlockHash) (n : ℕ) (hash : BlockHash) → map bytes_of hashes ≡ map block_hash_of gone → IsLinked genesis_tip gone
    → 0 < n → n ≤ length gone → slice_get hashes (n - 1) ≡ Some hash → record { number = n; hash = hash.bytes } ≡ tip_point (take n (gone ++ resident))
point_of_gone gone resident hashes n hash same linked some within is =
    let there = numbered_there (gone ++ resident) n some (omega (arith, length-append gone resident)) in
    let b = there.0 in
    let found : Some hash.bytes ≡ Some (block_hash_of b) = ap (option_map bytes_of) (sym is) ∙ hash_within gone resident hashes n same some within ∙ ap (option_map block_hash_of) there.1 in
    let number : n ≡ b.header.number = sym (number_of_place gone resident n b linked within there.1) in
    let hashed : hash.bytes ≡ block_hash_of b = same_Some hash.bytes (block_hash_of b) found in
    let point : record { number = n; hash = hash.bytes } ≡ record { number = b.header.number; hash = block_hash_of b } = λ i. record { number = number i; hash = hashed i } in
    point ∙ sym (point_of_numbered (gone ++ resident) n b there.1)

-- the first blocks, or all where there are fewer, end at the last of them
pub point_of_least : (chain : List Block) (n k : ℕ) (b : Block) → k ≡ min n (length chain) → block_numbered chain k ≡ Some b
    → record { number = b.header.number; hash = block_hash_of b } ≡ tip_point (take n chain)
point_of_least chain n k b least is = sym (point_of_numbered chain k b is) ∙ ap tip_point (ap (λ (m : ℕ). take m chain) least ∙ take_min n chain)

-- where no block behind them has the number it is one of the first ones'
pub within_where_none : (gone resident : List Block) (n : ℕ) → n ≤ length (gone ++ resident) → (length gone < n → block_numbered (gone ++ resident) n ≡ None) → n ≤ length gone
within_where_none gone resident n within none =
    elim (cases_lt (length gone) n) [
      | inl behind ↦
          let there = numbered_there (gone ++ resident) n (omega arith) within in
          absurd (none-some there.0 (sym (none behind) ∙ there.1))
      | inr least ↦ least
    ]
