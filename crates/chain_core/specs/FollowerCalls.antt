-- What following promises.
use Rattle.std.specs.Prelude.{◌≡◌, ◌<◌, ℕ, Option, Some}
use Rattle.model.specs.Follower.{free_id}
use Rattle.model.specs.Limits.{follower_limit}
use Rattle.model.specs.Signature.{Verifies}
use Rattle.model.specs.History as history
use Rattle.model.specs.History.{State, Next, Reply, HasDue}
use Rattle.followers.specs.declared.fault.OpenFollowerFault.{OpenFollowerFault}
use Rattle.followers.specs.declared.fault.OpenFollowerFault.TheVariants as open'
use Rattle.followers.specs.declared.place.Due.{Due}
use Rattle.followers.specs.declared.place.Due.TheVariants.{Add}
use Rattle.chain_core.specs.declared.follower.NextFault.{NextFault}
use Rattle.chain_core.specs.declared.follower.NextFault.TheVariants as next
use Rattle.chain_core.specs.Held.{Held, Stands, network_held}

-- memory is asked for only where a number is free
abbrev pub IsWantAtOpen : Held → OpenFollowerFault → Type 0
IsWantAtOpen held fault = fault ≡ open'.OutOfMemory → free_id held.followers < follower_limit

-- memory is asked for only where a block comes next for the follower of this number
abbrev pub IsWantAtNext : Held → ℕ → NextFault → Type 0
IsWantAtNext held id fault = fault ≡ next.OutOfMemory → (s : State) → Stands held s → HasDue s id

-- for every state that the core stands for, this is what the follower of this number may be told next
abbrev pub Peeks : Verifies → Held → ℕ → Reply → Type 0
Peeks verifies held id reply = (s : State) → Stands held s → (t : State)
    × history.Step (network_held held verifies) s (Next id) reply t

-- a block that is to be put on is one of the chain
abbrev pub IsWithin : ℕ → Option Due → Type 0
IsWithin height due = (after : ℕ) → due ≡ Some (Add after) → after < height
