-- How a hash is searched for: from the first block on, at each one by the next bit of the hash, to a later block.
use Rattle.std.specs.Prelude.{◌≡◌, ◌⊎◌, ◌<◌, ◌≤◌, ◌-◌, ◌+◌, ◌/◌, ◌%◌, ◌^◌, ◌==◌, ℕ, zero, suc, Bool, true, false, Some}
use Rattle.std.specs.Prelude.{List, length, get_or, slice_get, slice_set, slice_index}
use Rattle.chain.specs.declared.index.Node.{Node}
use Rattle.chain.specs.declared.index.Seek.{Seek}
use Rattle.chain.specs.declared.index.Seek.TheVariants.{Found, Ends}

-- the bit of a hash by which the search goes on at this depth
unfoldable pub bit_of : List ℕ → ℕ → Bool
bit_of hash depth = slice_index hash (depth % 32) / 2 ^ (depth / 32 % 8) % 2 == 1

-- the child by this bit: the number of the block to which the search goes on, 0 where there is none
abbrev pub child_by : Node → Bool → ℕ
child_by node false = node.clear
child_by node true = node.set

-- the node with this child by this bit
abbrev pub with_child_by : Node → Bool → ℕ → Node
with_child_by node false number = record { clear = number; set = node.set }
with_child_by node true number = record { clear = node.clear; set = number }

-- a node without children
abbrev pub leaf : Node
leaf = record { clear = 0; set = 0 }

-- the same of the block of a number
abbrev pub child_at : List Node → ℕ → Bool → ℕ
child_at nodes number bit = child_by (get_or nodes (number - 1) leaf) bit

-- the block of the number has the hash
abbrev pub IsHashAt : List (List ℕ) → ℕ → List ℕ → Type 0
IsHashAt hashes number hash = slice_get hashes (number - 1) ≡ Some hash

module _ (nodes : List Node) (hashes : List (List ℕ)) (hash : List ℕ) where
  -- in this number of steps the search comes from one block to another, the first on its way that has the hash
  abbrev pub IsFoundBy : (steps number depth found : ℕ) → Type 0
  IsFoundBy zero number depth found = (number ≡ found) × IsHashAt hashes number hash
  IsFoundBy (suc steps) number depth found =
      (IsHashAt hashes number hash → ⊥) × (0 < child_at nodes number (bit_of hash depth))
      × IsFoundBy steps (child_at nodes number (bit_of hash depth)) (suc depth) found

  -- in this number of steps it comes to a block without a next one by this bit, and none on its way has the hash
  abbrev pub EndsBy : (steps number depth last : ℕ) → (bit : Bool) → Type 0
  EndsBy zero number depth last bit =
      (IsHashAt hashes number hash → ⊥) × (number ≡ last) × (bit_of hash depth ≡ bit) × (child_at nodes number bit ≡ 0)
  EndsBy (suc steps) number depth last bit =
      (IsHashAt hashes number hash → ⊥) × (0 < child_at nodes number (bit_of hash depth))
      × EndsBy steps (child_at nodes number (bit_of hash depth)) (suc depth) last bit

-- each child is a later block
abbrev pub IsRising : List Node → Type 0
IsRising nodes = (number : ℕ) (bit : Bool) → 0 < child_at nodes number bit
    → (number < child_at nodes number bit) × (child_at nodes number bit ≤ length nodes)

-- each hash is found
abbrev pub AreFound : List Node → List (List ℕ) → Type 0
AreFound nodes hashes = (place : ℕ) (hash : List ℕ) → slice_get hashes place ≡ Some hash
    → (steps : ℕ) × (found : ℕ) × IsFoundBy nodes hashes hash steps 1 0 found

-- where the search for a hash ends
abbrev pub IsSearched : List Node → List (List ℕ) → List ℕ → Seek → Type 0
IsSearched nodes hashes hash (Found number) = (0 < number) × (number ≤ length nodes) × IsHashAt hashes number hash
IsSearched nodes hashes hash (Ends number bit) =
    (0 < number) × (number ≤ length nodes) × ((steps : ℕ) × EndsBy nodes hashes hash steps 1 0 number bit)

-- there was no block, or one has the hash, or the search for it ended at one, from which it goes on to the next
abbrev pub IsHung : List Node → List (List ℕ) → (hash : List ℕ) → List Node → Type 0
IsHung nodes hashes hash now =
    ((now ≡ nodes) × ((length nodes ≡ 0) ⊎ ((place : ℕ) × (slice_get hashes place ≡ Some hash))))
    ⊎ ((last : ℕ) × (bit : Bool) × (steps : ℕ) × (0 < last) × (last ≤ length nodes)
    × EndsBy nodes hashes hash steps 1 0 last bit
    × (now ≡ slice_set nodes (last - 1) (with_child_by (get_or nodes (last - 1) leaf) bit (length nodes + 1))))
