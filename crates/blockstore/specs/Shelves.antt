-- What is said of the blocks on a shelf, which are a list in no order that is spoken of.
use Rattle.std.specs.Prelude.{◌≡◌, ◌≢◌, ◌↔◌, ℕ, ◌+◌, ◌<◌, List, length, map, Contains, Option}
use Rattle.std.specs.List.{IsDistinct}
use Rattle.std.specs.Ordering.{eq_by_cmp}
use Rattle.model.specs.Block.{block_hash_of}
use Rattle.model.specs.Chain.{HaveDistinctHashes}
use Rattle.blockstore.specs.Stored.{Stored}
use Rattle.blockstore.specs.Keys.{link_cmp, IsLinkOf, IsAgeOf}
use Rattle.blockstore.specs.declared.keys.Link.{Link}
use Rattle.blockstore.specs.declared.keys.Age.{Age}

-- the same blocks, and as many
pub record IsSame (xs ys : List Stored) : Type 0 where
  pub members : (x : Stored) → Contains xs x ↔ Contains ys x
  pub count : length xs ≡ length ys

-- no two of these have one hash
abbrev pub AreApart : List Stored → Type 0
AreApart xs =
    (x y : Stored) → Contains xs x → Contains xs y → block_hash_of x.block ≡ block_hash_of y.block → x ≡ y

-- none has this hash
abbrev pub HasNone : List Stored → List ℕ → Type 0
HasNone xs hash = (x : Stored) → Contains xs x → block_hash_of x.block ≢ hash

-- those that name this one as the block before them, each once
pub record AreAfter (xs : List Stored) (previous : Option (List ℕ)) (found : List Stored) : Type 0 where
  pub members : (x : Stored) → Contains found x ↔ (Contains xs x × (x.block.header.previous ≡ previous))
  pub once : HaveDistinctHashes (map (λ s. s.block) found)

-- there is one, at least
abbrev pub HasAfter : List Stored → Option (List ℕ) → Type 0
HasAfter xs previous = (x : Stored) × Contains xs x × (x.block.header.previous ≡ previous)

-- their links, each once
pub record AreLinksAfter (xs : List Stored) (previous : Option (List ℕ)) (links : List Link) : Type 0 where
  pub named : (l : Link) → Contains links l → (x : Stored) × Contains xs x × IsLinkOf x.block l
  pub same : (l : Link) → Contains links l → l.previous ≡ previous
  pub kept : (x : Stored) → Contains xs x → x.block.header.previous ≡ previous
      → (l : Link) × Contains links l × IsLinkOf x.block l
  pub once : IsDistinct (eq_by_cmp link_cmp) links

-- one of them has a number past this one
abbrev pub HasPast : ℕ → List Stored → Type 0
HasPast number xs = (x : Stored) × Contains xs x × (number < x.block.header.number)

-- all are past this number
abbrev pub ArePast : ℕ → List Stored → Type 0
ArePast number xs = (x : Stored) → Contains xs x → number < x.block.header.number

-- a block of this age is there
pub record HasAge (xs : List Stored) (age : Age) : Type 0 where
  pub block : Stored
  pub member : Contains xs block
  pub is : IsAgeOf block.block age

-- the block of this age is gone, and all others are left
pub record IsWithout (old : List Stored) (age : Age) (new : List Stored) : Type 0 where
  pub members : (x : Stored) → Contains new x ↔ (Contains old x × (block_hash_of x.block ≢ age.hash))
  pub count : length new + 1 ≡ length old

-- what is left where blocks up to this number were taken out
pub record IsLeft (number : ℕ) (old now : List Stored) : Type 0 where
  pub within : (x : Stored) → Contains now x → Contains old x
  pub past : (x : Stored) → Contains old x → number < x.block.header.number → Contains now x
