-- Calls of the core as steps of the definitions.
use Rattle.std.specs.Prelude.{◌≡◌, List}
use Rattle.model.specs.Signature.{Verifies}
use Rattle.model.specs.Ledger.{Network}
use Rattle.model.specs.History.{State, Event, Reply, Entry, Step, IsLegal}
use Rattle.chain_core.specs.Held.{Held, Stands, network_held}

-- For every state of the definitions that the core stands for, the event with its reply is a step to one that it then
-- stands for.
abbrev pub Steps : Verifies → Held → Event → Reply → Held → Type 0
Steps verifies old event reply new = (s : State) → Stands old s → (t : State)
    × Step (network_held old verifies) s event reply t
    × Stands new t

-- what it began from stays: the genesis, and the chain that it was opened on
pub record KeepsStart (old new : Held) : Type 0 where
  pub genesis : new.genesis ≡ old.genesis
  pub opened : new.opened ≡ old.opened

-- what is held stands for the state that a legal history leaves
pub record IsReached (network : Network) (held : Held) : Type 0 where
  pub history : List Entry
  pub state : State
  pub legal : IsLegal network history state
  pub stands : Stands held state
