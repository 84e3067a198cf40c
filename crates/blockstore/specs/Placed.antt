-- What a shelf holds: live blocks, and of each whether a way is noted to lead to it.
use Rattle.std.specs.Prelude.{◌≡◌, ℕ, List, [], map, Bool, false, cond, Option, Some, None, option_map, unwrap_or, refl}
use Rattle.std.specs.Coded.{Coded, code_by, coded×, coded_list, coded_ℕ, coded_bool}
use Rattle.std.specs.Map.{lookup}
use Rattle.std.specs.BTreeMap.{BTreeMap, get, values, is_at}
use Rattle.model.specs.Block.{block_hash_of}
use Rattle.model.specs.Chain.{Tip, tip_at}
use Rattle.blockstore.specs.Stored.{Stored, unmarked, coded_stored}
use Rattle.blockstore.specs.Keys.{hash_cmp}

-- a live block, and whether it is noted that it has no mark and a way leads to it
pub record Placed : Type 0 where
  pub stored : Stored
  pub reached : Bool

abbrev pub coded_placed : Coded Placed
coded_placed =
    code_by (Stored × Bool) (coded× coded_stored coded_bool) (λ p. (p.stored, p.reached))
    (λ q. record { stored = q.0; reached = q.1 }) (λ _. refl)

-- where the block stands, if a way is noted to lead to it
abbrev pub place_of : Placed → Option Tip
place_of p = cond p.reached (Some (tip_at p.stored.block)) None

-- the block without a mark, and without the note that a way leads to it
abbrev pub cleared : Placed → Placed
cleared p = record { stored = unmarked p.stored.block; reached = false }

-- of each live block, by its hash, whether it has no mark and a way leads to it
abbrev pub Notes : Type 0
Notes = List (List ℕ × Bool)

-- it is noted that the block of this hash has no mark and a way leads to it
abbrev pub is_noted : Notes → List ℕ → Bool
is_noted notes hash = unwrap_or (lookup (is_at (hash_cmp hash)) notes) false

-- the live blocks, and what is noted of them
pub record Held : Type 0 where
  pub blocks : List Stored
  pub notes : Notes

abbrev pub coded_held : Coded Held
coded_held =
    code_by (List Stored × Notes)
    (coded× (coded_list coded_stored) (coded_list (coded× (coded_list coded_ℕ) coded_bool)))
    (λ h. (h.blocks, h.notes)) (λ q. record { blocks = q.0; notes = q.1 }) (λ _. refl)

-- no block
abbrev pub nothing_held : Held
nothing_held = record { blocks = []; notes = [] }

-- ---- in a map, each at its hash

-- the block at this hash
abbrev pub stored_at : BTreeMap (List ℕ) Placed → List ℕ → Option Stored
stored_at m hash = option_map (λ p. p.stored) (get hash_cmp m hash)

-- the blocks, in the order of their hashes
abbrev pub blocks_in : BTreeMap (List ℕ) Placed → List Stored
blocks_in m = map (λ p. p.stored) (values m)

-- what is noted of them
abbrev pub notes_in : BTreeMap (List ℕ) Placed → Notes
notes_in m = map (λ e. (e.0, e.1.reached)) m.entries

-- the blocks, and what is noted of them
abbrev pub held_in : BTreeMap (List ℕ) Placed → Held
held_in m = record { blocks = blocks_in m; notes = notes_in m }

-- each block stands at its hash
abbrev pub IsKeyed : BTreeMap (List ℕ) Placed → Type 0
IsKeyed m = (hash : List ℕ) (x : Stored) → stored_at m hash ≡ Some x → block_hash_of x.block ≡ hash

-- each block with its hash
abbrev pub entries_in : BTreeMap (List ℕ) Placed → List (List ℕ × Stored)
entries_in m = map (λ e. (e.0, e.1.stored)) m.entries

-- the same blocks at the same hashes
abbrev pub AreSameBlocks : BTreeMap (List ℕ) Placed → BTreeMap (List ℕ) Placed → Type 0
AreSameBlocks m n = entries_in n ≡ entries_in m
