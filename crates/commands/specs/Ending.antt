-- How the run of a script ends whose reader is read through a buffer.
use Rattle.std.specs.Prelude.{ℕ, Bool, List, Option}
use Rattle.model.specs.Ledger.{Network}
use Rattle.genesis.specs.declared.scheme.Scheme.{Scheme}
use Rattle.scenario.specs.declared.options.Options.{Options}
use Rattle.scenario.specs.declared.fault.ScenarioFault.{ScenarioFault}
use Rattle.scenario.specs.Run.{EndsBy}

-- a run by the scheme of the genesis file, which is explained if that is asked for
abbrev pub options_by : Scheme → (explain : Bool) → Options
options_by scheme explain = record { scheme = scheme; explain = explain }

-- the run ended by a fault, where some of the text is left
abbrev pub EndsBySome : Options → Network → List ℕ → Option (List ℕ) → Option (List ℕ) → ScenarioFault → Type 0
EndsBySome options network text old new why = (remaining : Option (List ℕ))
    × EndsBy options network text remaining old new why
