-- What the tests of a scan decide.
use Rattle.std.proofs.Common.{◌≡◌, ◌≢◌, ℕ, Bool, true, false, cond, List, Option, Some, None, refl, sym, ap, ◌∙◌}
use Rattle.std.proofs.lemmas.Slice.Eq.{bytes_eq-Decides}
use Rattle.std.proofs.lemmas.Option.{same_Some}
use Rattle.model.specs.Block.{block_hash_of}
use Rattle.blockstore.specs.Stored.{Stored, marked}
use Rattle.blockstore.specs.Tests.{has_hash, same_previous, marked_at}
use Rattle.blockstore.specs.Answers.{IsMarkedAt}

-- ---- hashes

pub hash_is : (hash : List ℕ) (s : Stored) → has_hash hash s ≡ true → block_hash_of s.block ≡ hash
hash_is hash s passes = (bytes_eq-Decides (block_hash_of s.block) hash).0 passes

pub hash_is_not : (hash : List ℕ) (s : Stored) → has_hash hash s ≡ false → block_hash_of s.block ≢ hash
hash_is_not hash s fails same = let e : false ≡ true = sym fails ∙ (bytes_eq-Decides (block_hash_of s.block) hash).1 same in cc

-- ---- the block before

pub previous_is : (previous other : Option (List ℕ)) → same_previous previous other ≡ true → previous ≡ other
previous_is None None same = refl
previous_is (Some hash) (Some other) same = ap Some ((bytes_eq-Decides hash other).0 same)
previous_is None (Some other) same = absurd (let e : false ≡ true = same in cc)
previous_is (Some hash) None same = absurd (let e : false ≡ true = same in cc)

pub previous_passes : (previous other : Option (List ℕ)) → previous ≡ other → same_previous previous other ≡ true
previous_passes None None same = refl
previous_passes (Some hash) (Some other) same = (bytes_eq-Decides hash other).1 (same_Some hash other same)
previous_passes None (Some other) same = absurd cc
previous_passes (Some hash) None same = absurd cc

-- ---- marks

one_mark : (hash : List ℕ) (s : Stored) (t : Bool) → has_hash hash s ≡ t → IsMarkedAt hash s (cond t (marked s) s)
one_mark hash s true passes = record { block = refl; this = λ same. refl; others = λ other. absurd (other (hash_is hash s passes)) }
one_mark hash s false fails = record { block = refl; this = λ same. absurd (hash_is_not hash s fails same); others = λ other. refl }

pub is_marked : (hash : List ℕ) (s : Stored) → IsMarkedAt hash s (marked_at hash s)
is_marked hash s = one_mark hash s (has_hash hash s) refl

one_marked : (hash : List ℕ) (s x : Stored) (t : Bool) → has_hash hash s ≡ t → IsMarkedAt hash s x → x ≡ cond t (marked s) s
one_marked hash s x true passes is = λ i. record { block = is.block i; invalid = is.this (hash_is hash s passes) i }
one_marked hash s x false fails is = λ i. record { block = is.block i; invalid = is.others (hash_is_not hash s fails) i }

-- and there is one such block
pub marked_is : (hash : List ℕ) (s x : Stored) → IsMarkedAt hash s x → x ≡ marked_at hash s
marked_is hash s x is = one_marked hash s x (has_hash hash s) refl is

-- a mark changes no block
pub same_block : (hash : List ℕ) (s : Stored) → (marked_at hash s).block ≡ s.block
same_block hash s = (is_marked hash s).block
