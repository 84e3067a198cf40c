-- What the calls on followers answer and leave.
use Rattle.std.specs.Prelude.{◌≡◌, ◌≤◌, ◌<◌, ℕ, Option, Some, None, slice_set}
use Rattle.model.specs.Follower.{follower_of, free_id, with_first_free}
use Rattle.model.specs.Limits.{follower_limit}
use Rattle.followers.specs.declared.fault.OpenFollowerFault.{OpenFollowerFault}
use Rattle.followers.specs.declared.fault.OpenFollowerFault.TheVariants.{TooManyFollowers, OutOfMemory}
use Rattle.followers.specs.declared.place.Place.{Place}
use Rattle.followers.specs.declared.place.Due.{Due}
use Rattle.followers.specs.Places.{Places, standing, due_of, place_after}

-- a follower of the least free number is opened, and stands at genesis
pub record IsOpened (old : Places) (id : ℕ) (new : Places) : Type 0 where
  pub is_free : id ≡ free_id old
  pub few : id < follower_limit
  pub after : new ≡ with_first_free (standing 0) old

-- why none is: where memory ran out there was a free number
abbrev pub IsOpenFault : Places → OpenFollowerFault → Type 0
IsOpenFault places TooManyFollowers = follower_limit ≤ free_id places
IsOpenFault places OutOfMemory = free_id places < follower_limit

-- the follower of this number is told what comes next beside a selected chain of this length
pub record IsMovedOn (old : Places) (id height : ℕ) (due : Option Due) (new : Places) : Type 0 where
  pub place : Place
  pub is_open : follower_of old id ≡ Some place
  pub told : due ≡ due_of height place
  pub after : new ≡ slice_set old id (Some (place_after height place))

-- the follower of this number is open, and then stands at the end of the first `n` blocks
pub record IsForwarded (old : Places) (id n : ℕ) (new : Places) : Type 0 where
  pub place : Place
  pub is_open : follower_of old id ≡ Some place
  pub after : new ≡ slice_set old id (Some (standing n))

-- the follower of this number was open, and its number is free
pub record IsClosed (old : Places) (id : ℕ) (new : Places) : Type 0 where
  pub place : Place
  pub is_open : follower_of old id ≡ Some place
  pub after : new ≡ slice_set old id None
