-- When a call under the lock asks for memory.
use Rattle.std.specs.Prelude.{◌≡◌, ◌<◌, ℕ, List}
use Rattle.model.specs.Signature.{Verifies}
use Rattle.model.specs.Follower.{free_id}
use Rattle.model.specs.Limits.{follower_limit}
use Rattle.model.specs.History.{State, Reply, Refusal, OutOfMemory, HasDue, Applies}
use Rattle.model.specs.Journal.{Journal}
use Rattle.chain_core.specs.Held.{Held, Stands}
use Rattle.shared.specs.Starts.{Start, network_from}
use Rattle.shared.specs.Standing.{IsCoreOf}

-- It was asked for by a core that is the state of the journal under the lock.
pub record IsWantOf (verifies : Verifies) (start : Start) (journal : Journal) (asks : Held → Type 0) : Type 0 where
  pub held : Held
  pub core : IsCoreOf verifies start journal held
  pub want : asks held

-- only where a number is free
abbrev pub IsWantAtOpening : Verifies → Start → Journal → Reply → Type 0
IsWantAtOpening verifies start journal reply =
    reply ≡ OutOfMemory → IsWantOf verifies start journal (λ held. free_id held.followers < follower_limit)

-- only where a block comes next for the follower of this number
abbrev pub IsWantAtTelling : Verifies → Start → Journal → ℕ → Reply → Type 0
IsWantAtTelling verifies start journal id reply =
    reply ≡ OutOfMemory → IsWantOf verifies start journal (λ held. (s : State) → Stands held s → HasDue s id)

-- only where no refusal applies to these bytes, which were seen
abbrev pub IsWantAtArriving : Verifies → Start → Journal → List ℕ → Type 0
IsWantAtArriving verifies start journal bytes =
    IsWantOf verifies start journal (λ held. (s : State) → Stands held s → (refusal : Refusal)
    → Applies (network_from start verifies) s bytes refusal → ⊥)
