-- What a log keeps in memory of the blocks on its disk.
use Rattle.std.specs.Prelude.{◌≡◌, ◌+◌, ℕ, List, [], ◌∷◌, length, None, Some, slice_get}
use Rattle.sha2.specs.Sha256.{sha256}
use Rattle.immlog.specs.Views.{blocks_of}
use Rattle.immlog.specs.declared.index.Index.{Index}
use Rattle.immlog.specs.declared.index.IndexEntry.{IndexEntry}

-- the blocks of an index
abbrev pub blocks_in : Index → List (List ℕ)
blocks_in index = blocks_of index.blocks

-- the record of each block begins where its entry says, the first at this place, and the digest is the block's
abbrev pub AreEntriesOf : (place : ℕ) → List (List ℕ) → List IndexEntry → Type 0
AreEntriesOf place [] entries = entries ≡ []
AreEntriesOf place (block ∷ blocks) [] = ⊥
AreEntriesOf place (block ∷ blocks) (entry ∷ entries) = (entry.place ≡ place) × (entry.digest ≡ sha256 block)
    × AreEntriesOf (place + (37 + length block)) blocks entries

-- the record of this entry begins here, or all records end here, where there is no such entry
abbrev pub IsBeginOf : List IndexEntry → (at end begin : ℕ) → Type 0
IsBeginOf entries at end begin = ((entry : IndexEntry) → slice_get entries at ≡ Some entry → begin ≡ entry.place)
    × (slice_get entries at ≡ None → begin ≡ end)
