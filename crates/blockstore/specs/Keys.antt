-- The keys under which blocks are found beside their hashes, and their order.
use Rattle.std.specs.Prelude.{◌≡◌, ℕ, Bool, true, List, Option, Some, replicate}
use Rattle.std.specs.Ordering.{nat_cmp, ordering_then}
use Rattle.std.specs.Option.{option_cmp}
use Rattle.std.specs.Cmp.Lexicographic.{slice_cmp}
use Rattle.std.specs.BTreeSet.{BTreeSet, keys_between}
use Rattle.std.specs.declared.cmp.Ordering.{Ordering}
use Rattle.std.specs.declared.ops.Bound.TheVariants.{Included}
use Rattle.model.specs.Limits.{hash_size}
use Rattle.model.specs.Block.{Block, block_hash_of}
use Rattle.blockstore.specs.Words.{IsSized}
use Rattle.blockstore.specs.Stored.{Stored}
use Rattle.blockstore.specs.declared.keys.Link.{Link}
use Rattle.blockstore.specs.declared.keys.Age.{Age}

-- hashes are ordered as bytes
abbrev pub hash_cmp : List ℕ → List ℕ → Ordering
hash_cmp a b = slice_cmp nat_cmp a b

-- links by the block before, then by hash
abbrev pub link_cmp : Link → Link → Ordering
link_cmp a b = ordering_then (option_cmp (slice_cmp nat_cmp) a.previous b.previous) (slice_cmp nat_cmp a.hash b.hash)

-- ages by number, then by hash
abbrev pub age_cmp : Age → Age → Ordering
age_cmp a b = ordering_then (nat_cmp a.number b.number) (slice_cmp nat_cmp a.hash b.hash)

-- the link names the block, and the one that it follows, if it follows one
abbrev pub IsLinkOf : Block → Link → Type 0
IsLinkOf b link = (link.previous ≡ b.header.previous) × (link.hash ≡ block_hash_of b) × IsSized link.hash

-- the age names the block, and its number
abbrev pub IsAgeOf : Block → Age → Type 0
IsAgeOf b age = (age.number ≡ b.header.number) × (age.hash ≡ block_hash_of b)

-- Just the blocks that stand at a hash have keys of this kind.
pub record AreKeysOf {K : Type 0} (IsKey : Block → K → Type 0) (has : K → Bool) (at : List ℕ → Option Stored)
    : Type 0 where
  pub kept : (hash : List ℕ) (x : Stored) → at hash ≡ Some x → (key : K) × (has key ≡ true) × IsKey x.block key
  pub named : (key : K) → has key ≡ true
      → (hash : List ℕ) × (x : Stored) × (at hash ≡ Some x) × IsKey x.block key

-- the least of the links whose blocks name this one as the block before them, and the greatest; where it is None, of
-- those whose blocks name none
abbrev pub first_link : Option (List ℕ) → Link
first_link previous = record { previous = previous; hash = replicate hash_size 0 }

abbrev pub last_link : Option (List ℕ) → Link
last_link previous = record { previous = previous; hash = replicate hash_size 255 }

-- the links of a set between the least and the greatest that name this one as the block before theirs
abbrev pub links_behind : BTreeSet Link → Option (List ℕ) → List Link
links_behind links previous =
    keys_between link_cmp (Included (first_link previous)) (Included (last_link previous)) links
