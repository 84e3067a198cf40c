-- Which followers of the definitions the lengths stand for, beside a selected chain.
use Rattle.std.specs.Prelude.{◌≡◌, ◌≤◌, ℕ, List, [], ◌∷◌, length, take, Option, Some, None, slice_set, slice_get}
use Rattle.model.specs.Block.{Block, block_text}
use Rattle.model.specs.Chain.{BeginsWith, tip_point}
use Rattle.model.specs.Follower.{Follower, Followers, follower_of, with_first_free, with_opened, free_id, standing_at}
use Rattle.model.specs.Follower.{AreMoved, IsNext, Instruction, Stay, AddBlock, RollBack}
use Rattle.model.specs.History.{IsCommonLength}
use Rattle.followers.specs.declared.place.Place.{Place}
use Rattle.followers.specs.declared.place.Due.{Due}
use Rattle.followers.specs.declared.place.Due.TheVariants as due
use Rattle.followers.specs.Places.{Places, standing, moved_places, due_of, place_after}

-- What is agreed is that beginning of the selected chain; what was told has that length, and begins with it.
pub record IsPlaceOf (selected : List Block) (place : Place) (f : Follower) : Type 0 where
  pub within : place.agreed ≤ length selected
  pub agreed : f.agreed ≡ take place.agreed selected
  pub told : length f.told ≡ place.told
  pub begins : BeginsWith f.told f.agreed

-- so for each number
abbrev pub ArePlacesOf : (selected : List Block) → Places → Followers → Type 0
ArePlacesOf selected [] [] = Unit {0}
ArePlacesOf selected (None ∷ places) (None ∷ fs) = ArePlacesOf selected places fs
ArePlacesOf selected (Some place ∷ places) (Some f ∷ fs) = IsPlaceOf selected place f × ArePlacesOf selected places fs
ArePlacesOf selected places fs = ⊥

-- what is due is this instruction beside the selected chain
abbrev pub IsDueOf : (selected : List Block) → Option Due → Instruction → Type 0
IsDueOf selected None instruction = instruction ≡ Stay
IsDueOf selected (Some (due.RollBack to)) instruction = instruction ≡ RollBack (tip_point (take to selected))
IsDueOf selected (Some (due.Add after)) instruction =
    (b : Block) × (slice_get selected after ≡ Some b) × (instruction ≡ AddBlock (block_text b))

-- LENGTHS STAND FOR FOLLOWERS
-- Whatever followers the lengths stand for beside a selected chain, what is done with the lengths is what the
-- definitions do with the followers.
pub record LengthsStandFor : Type 0 where
  -- the same numbers are free, and open
  pub free : (selected : List Block) (places : Places) (fs : Followers) → ArePlacesOf selected places fs
      → free_id fs ≡ free_id places
  pub is_open : (selected : List Block) (places : Places) (fs : Followers) (id : ℕ) (place : Place)
      → ArePlacesOf selected places fs → follower_of places id ≡ Some place
      → (f : Follower) × (follower_of fs id ≡ Some f) × IsPlaceOf selected place f
  pub nobody : (selected : List Block) (places : Places) (fs : Followers) (id : ℕ) → ArePlacesOf selected places fs
      → follower_of places id ≡ None → follower_of fs id ≡ None
  -- a follower is opened, set forward and closed
  pub opened : (selected : List Block) (places : Places) (fs : Followers) → ArePlacesOf selected places fs
      → ArePlacesOf selected (with_first_free (standing 0) places) (with_opened fs)
  pub forwarded : (selected : List Block) (places : Places) (fs : Followers) (id n : ℕ) → n ≤ length selected
      → ArePlacesOf selected places fs
      → ArePlacesOf selected (slice_set places id (Some (standing n)))
      (slice_set fs id (Some (standing_at (take n selected))))
  pub closed : (selected : List Block) (places : Places) (fs : Followers) (id : ℕ) → ArePlacesOf selected places fs
      → ArePlacesOf selected (slice_set places id None) (slice_set fs id None)
  -- one is told what comes next
  pub next : (selected : List Block) (places : Places) (fs : Followers) (id : ℕ) (place : Place)
      → ArePlacesOf selected places fs → follower_of places id ≡ Some place
      → (instruction : Instruction) → IsDueOf selected (due_of (length selected) place) instruction
      → (old new : Follower) × (follower_of fs id ≡ Some old) × IsNext selected old instruction new
      × ArePlacesOf selected (slice_set places id (Some (place_after (length selected) place)))
      (slice_set fs id (Some new))
  -- another chain is selected
  pub moved : (old new : List Block) (common : ℕ) (places : Places) (fs : Followers) → IsCommonLength old new common
      → ArePlacesOf old places fs
      → (gs : Followers) × AreMoved new fs gs × ArePlacesOf new (moved_places common places) gs
