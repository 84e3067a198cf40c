-- What is changed while a block is put on.
use Rattle.std.specs.Prelude.{◌≡◌, List, [], ◌∷◌, if◌then◌else◌}
use Rattle.std.specs.FinMap as finite
use Rattle.model.specs.Transaction.{Input, Output}
use Rattle.model.specs.Utxo.{Utxo}
use Rattle.watching.specs.Which.{Which, is_watched}
use Rattle.watching.specs.Histories.{Histories, Inclusions}
use Rattle.watching.specs.Chains.{Tables}
use Rattle.watching.specs.Changes.{all_put_back}
use Rattle.watching.specs.View.{tables_of}
use Rattle.watching.specs.declared.advance.Advance.{Advance}

-- with other outputs, other histories, or other inclusions
abbrev pub with_outputs : Utxo → Tables → Tables
with_outputs outputs k = record { outputs = outputs; histories = k.histories; inclusions = k.inclusions }

abbrev pub with_histories : Histories → Tables → Tables
with_histories histories k = record { outputs = k.outputs; histories = histories; inclusions = k.inclusions }

abbrev pub with_inclusions : Inclusions → Tables → Tables
with_inclusions inclusions k = record { outputs = k.outputs; histories = k.histories; inclusions = inclusions }

-- with this output at the input, if it is watched, and else with none
abbrev pub placed : Which → Input → Output → Utxo → Utxo
placed which input output utxo =
    if is_watched which output then finite.insert utxo input output else finite.remove utxo input

-- so with each of these pairs
abbrev pub with_watched : Which → List (Input × Output) → Utxo → Utxo
with_watched which [] utxo = utxo
with_watched which (p ∷ ps) utxo = with_watched which ps (placed which p.0 p.1 utxo)

-- the tables of an advance
abbrev pub tables_in : Advance → Tables
tables_in a = tables_of a.tables

-- these are the tables now, and undoing all changes gives what it gave before
pub record IsChanged (old new : Advance) (tables : Tables) : Type 0 where
  pub now : tables_in new ≡ tables
  pub back : all_put_back new.changes.items (tables_in new) ≡ all_put_back old.changes.items (tables_in old)
