-- Which blocks a way of live blocks leads to, and what a store notes of it.
use Rattle.std.specs.Prelude.{◌≡◌, ◌≢◌, ◌⊎◌, ◌∷◌, ◌++◌, ℕ, List, [], length, filter, Contains}
use Rattle.std.specs.Prelude.{Option, Some, None, Bool, true, false, not}
use Rattle.std.specs.List.{AllByRecursion}
use Rattle.model.specs.Block.{Block, block_hash_of}
use Rattle.model.specs.Chain.{Tip, tip_at, Follows, IsLinked}
use Rattle.block.specs.declared.tip.Tip.{Tip as Place}
use Rattle.block.specs.View.{tip_of}
use Rattle.blockstore.specs.Stored.{Stored, unmarked}
use Rattle.blockstore.specs.Placed.{Notes, is_noted, Held}

-- WAY (this project's own)
-- Live blocks without a mark, each following the one before it, lead from a root to this block, which need not be live.
pub record HasWay (root : Tip) (live : List Stored) (b : Block) : Type 0 where
  pub before : List Block
  pub members : AllByRecursion (λ c. Contains live (unmarked c)) before
  pub linked : IsLinked root (before ++ b ∷ [])

-- ---- notes

-- the block follows the root, if there is one
abbrev pub FollowsRoot : Option Tip → Block → Type 0
FollowsRoot None b = ⊥
FollowsRoot (Some root) b = Follows root b

-- a live block that is noted, and that this one follows
pub record HasParent (live : List Stored) (notes : Notes) (b : Block) : Type 0 where
  pub parent : Stored
  pub member : Contains live parent
  pub noted : is_noted notes (block_hash_of parent.block) ≡ true
  pub follows : Follows (tip_at parent.block) b

-- the block follows the root, or a live block that is noted
abbrev pub HasStep : Option Tip → List Stored → Notes → Block → Type 0
HasStep root live notes b = FollowsRoot root b ⊎ HasParent live notes b

-- a block without a mark that has a step
pub record IsReached (root : Option Tip) (live : List Stored) (notes : Notes) (x : Stored) : Type 0 where
  pub unmarked : x.invalid ≡ false
  pub step : HasStep root live notes x.block

-- the statement, or its contrary
abbrev pub Agrees : Bool → Type 0 → Type 0
Agrees true P = P
Agrees false P = P → ⊥

-- A live block is noted just where it has no mark and follows the root or a live block that is noted. Only live blocks
-- are noted.
pub record AreNotes (root : Option Tip) (live : List Stored) (notes : Notes) : Type 0 where
  pub named : (hash : List ℕ) → is_noted notes hash ≡ true
      → (x : Stored) × Contains live x × (block_hash_of x.block ≡ hash)
  pub right : (t : Bool) (x : Stored) → Contains live x → is_noted notes (block_hash_of x.block) ≡ t
      → Agrees t (IsReached root live notes x)

-- While notes become `turns`: those that have become it are right, and the others are, unless the block still waits.
pub record AreTurning (root : Option Tip) (live : List Stored) (turns : Bool) (Waits : Stored → Type 0)
    (notes : Notes) : Type 0 where
  pub named : (hash : List ℕ) → is_noted notes hash ≡ true
      → (x : Stored) × Contains live x × (block_hash_of x.block ≡ hash)
  pub sound : (x : Stored) → Contains live x → is_noted notes (block_hash_of x.block) ≡ turns
      → Agrees turns (IsReached root live notes x)
  pub left : (x : Stored) → Contains live x → is_noted notes (block_hash_of x.block) ≡ not turns
      → Agrees (not turns) (IsReached root live notes x) ⊎ Waits x

-- the block follows one of these places
abbrev pub FollowsOne : List Place → Stored → Type 0
FollowsOne places x = (p : Place) × Contains places p × Follows (tip_of p) x.block

-- A place behind which notes may become `turns`. True: what follows it has a step. False: what follows it has none by a
-- live block.
abbrev pub Stands : Option Tip → List Stored → Bool → Notes → Tip → Type 0
Stands root live true notes place = (b : Block) → Follows place b → HasStep root live notes b
Stands root live false notes place = (b : Block) → Follows place b → HasParent live notes b → ⊥

-- all of these are such places
abbrev pub AllStand : Option Tip → List Stored → Bool → Notes → List Place → Type 0
AllStand root live turns notes places = (p : Place) → Contains places p → Stands root live turns notes (tip_of p)

-- one is true, and the other isn't
abbrev pub differs : Bool → Bool → Bool
differs true t = not t
differs false t = t

-- how many live blocks may still turn
abbrev pub may_turn : List Stored → Bool → Notes → ℕ
may_turn live turns notes = length (filter (λ x. differs turns (is_noted notes (block_hash_of x.block))) live)

-- ---- what becomes of notes

-- this is noted of the hash, and of no other anything new
pub record IsNotedAt (hash : List ℕ) (t : Bool) (old new : Notes) : Type 0 where
  pub here : is_noted new hash ≡ t
  pub others : (other : List ℕ) → other ≢ hash → is_noted new other ≡ is_noted old other

-- the note of this hash has turned, and no other
pub record IsTurned (hash : List ℕ) (turns : Bool) (old new : Notes) : Type 0 where
  pub before : is_noted old hash ≡ not turns
  pub after : is_noted new hash ≡ turns
  pub others : (other : List ℕ) → other ≢ hash → is_noted new other ≡ is_noted old other

-- notes that say the same
abbrev pub AreSameNotes : Notes → Notes → Type 0
AreSameNotes old new = (hash : List ℕ) → is_noted new hash ≡ is_noted old hash

-- where the block of this hash stands, if it is noted
abbrev pub IsPlaceOf : Held → List ℕ → Option Tip → Type 0
IsPlaceOf held hash None = is_noted held.notes hash ≡ false
IsPlaceOf held hash (Some place) =
    (x : Stored) × Contains held.blocks x × (block_hash_of x.block ≡ hash) × (is_noted held.notes hash ≡ true)
    × (tip_at x.block ≡ place)

-- What the note of a block is to say that follows a place behind which notes become `turns`: it has no mark, and a way
-- leads to that place, or it follows the root.
pub record IsLed (root : Option Tip) (turns : Bool) (x : Stored) : Type 0 where
  pub unmarked : x.invalid ≡ false
  pub first : (turns ≡ true) ⊎ FollowsRoot root x.block

-- What became of the note of a live block that was looked at behind a place: it turned, since the block follows the
-- place, and is led as the note then says.
abbrev pub HasTurned : Tip → Option Tip → Bool → Stored → (was is : Bool) → Type 0
HasTurned place root turns x was is =
    (was ≡ not turns) × (is ≡ turns) × Follows place x.block × Agrees turns (IsLed root turns x)

-- Or it is what it was, since one of these doesn't hold.
abbrev pub HasStayed : Tip → Option Tip → Bool → Stored → (was is : Bool) → Type 0
HasStayed place root turns x was is =
    (is ≡ was) × ((Follows place x.block → ⊥) ⊎ ((was ≡ turns) ⊎ Agrees (not turns) (IsLed root turns x)))

-- The same of all notes, and of what waits, to which the block's place comes where its note turned.
abbrev pub IsLookedAt : Tip → Option Tip → Bool → Stored → (old new : Notes) → (waiting more : List Place) → Type 0
IsLookedAt place root turns x old new waiting more =
    (IsTurned (block_hash_of x.block) turns old new × Follows place x.block × Agrees turns (IsLed root turns x)
    × ((p : Place) × (tip_of p ≡ tip_at x.block) × (more ≡ waiting ++ p ∷ [])))
    ⊎ (AreSameNotes old new × (more ≡ waiting)
    × ((Follows place x.block → ⊥)
    ⊎ ((is_noted old (block_hash_of x.block) ≡ turns) ⊎ Agrees (not turns) (IsLed root turns x))))

-- What became of what waits where the live block of this hash went: nothing, if it wasn't noted, or stood at the next
-- root, so that it led on; else its place came to it.
abbrev pub IsLetGo : Held → List ℕ → Tip → Bool → (waiting more : List Place) → Type 0
IsLetGo held hash next leads waiting more =
    ((is_noted held.notes hash ≡ false) × (leads ≡ false) × (more ≡ waiting))
    ⊎ ((x : Stored) × Contains held.blocks x × (block_hash_of x.block ≡ hash) × (is_noted held.notes hash ≡ true)
    × (((tip_at x.block ≡ next) × (leads ≡ true) × (more ≡ waiting))
    ⊎ ((leads ≡ false) × ((p : Place) × (tip_of p ≡ tip_at x.block) × (more ≡ waiting ++ p ∷ [])))))

-- Live blocks went, with their notes. The places of those that were noted wait, except the one at the next root: then
-- it led on. The others' notes are what they were.
pub record AreDropped (old new : Held) (next : Tip) (leads : Bool) (waiting : List Place) : Type 0 where
  pub within : (x : Stored) → Contains new.blocks x → Contains old.blocks x
  pub gone : (x : Stored) → Contains old.blocks x → is_noted old.notes (block_hash_of x.block) ≡ true
      → Contains new.blocks x
      ⊎ (((p : Place) × Contains waiting p × (tip_of p ≡ tip_at x.block)) ⊎ ((tip_at x.block ≡ next) × (leads ≡ true)))
  pub notes : (x : Stored) → Contains new.blocks x
      → is_noted new.notes (block_hash_of x.block) ≡ is_noted old.notes (block_hash_of x.block)
  pub named : (x : Stored) → Contains old.blocks x → is_noted new.notes (block_hash_of x.block) ≡ true
      → Contains new.blocks x
  pub noted : (hash : List ℕ) → is_noted new.notes hash ≡ true → is_noted old.notes hash ≡ true
  pub out : (p : Place) → Contains waiting p → (x : Stored) → Contains new.blocks x
      → (tip_of p).hash ≢ Some (block_hash_of x.block)
  pub led : leads ≡ true
      → (x : Stored) × Contains old.blocks x × (is_noted old.notes (block_hash_of x.block) ≡ true)
      × (tip_at x.block ≡ next)
