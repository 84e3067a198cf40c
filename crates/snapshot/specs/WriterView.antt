-- What a writer stands for.
use Rattle.std.specs.Borrow.{Bor}
use Rattle.std.specs.Prelude.{List, [], ◌∷◌, Option, Some, None, option_map}
use Rattle.model.specs.Transaction.{Input, Output}
use Rattle.tx.specs.declared.input.Input.{Input as CodeInput}
use Rattle.tx.specs.declared.output.Output.{Output as CodeOutput}
use Rattle.utxo_rules.specs.Entries.{pair_of}
use Rattle.snapshot.specs.ToWrite.{ToWrite}
use Rattle.snapshot.specs.View.{front_view}
use Rattle.snapshot.specs.declared.writer.SnapshotWriter.TheInside.{Inside}

-- the next pair and the others after it, or none
abbrev pub from_next : Option (CodeInput × Bor CodeOutput) → List (Input × Output) → List (Input × Output)
from_next None pairs = []
from_next (Some entry) pairs = pair_of entry ∷ pairs

abbrev pub to_write_of : Inside → ToWrite
to_write_of w = record { front = option_map front_view w.front; pairs = from_next w.next w.rest }
