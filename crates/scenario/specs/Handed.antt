-- What a script makes of the core on which it runs.
use Rattle.std.specs.Prelude.{ℕ, List, Option}
use Rattle.model.specs.Signature.{Verifies}
use Rattle.model.specs.History.{State, Entry, IsRun}
use Rattle.chain_core.specs.Held.{Held, Stands, network_held}
use Rattle.scenario.specs.declared.options.Options.{Options}
use Rattle.scenario.specs.declared.fault.ScenarioFault.{ScenarioFault}
use Rattle.scenario.specs.Run.{EndsWellFrom, EndsByFrom}

-- from each state that the core stood for on the text is run to its end, and the core stands for where that leads
abbrev pub RunsWell : Options → Verifies → (old new : Held) → List ℕ → (before after : Option (List ℕ)) → Type 0
RunsWell options verifies old new text before after = (s : State) → Stands old s → (t : State)
    × EndsWellFrom options (network_held old verifies) s text before after t
    × Stands new t

-- or it is run up to a fault, and the core stands for where that leads
abbrev pub RunsInto : Options → Verifies → (old new : Held) → List ℕ → (remaining before after : Option (List ℕ))
    → ScenarioFault → Type 0
RunsInto options verifies old new text remaining before after why = (s : State) → Stands old s → (t : State)
    × EndsByFrom options (network_held old verifies) s text remaining before after why t
    × Stands new t

-- whatever the text was: from each state that the core stood for, a run of the definitions' steps leads to one that it
-- stands for
abbrev pub HasRun : Verifies → (old new : Held) → Type 0
HasRun verifies old new = (s : State) → Stands old s → (history : List Entry) × (t : State)
    × IsRun (network_held old verifies) s history t
    × Stands new t
