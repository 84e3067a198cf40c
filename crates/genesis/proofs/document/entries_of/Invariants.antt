-- The outputs that were read and those that are still to read are the whole.
use Rattle.toml.specs.View.{view}
use Rattle.genesis.specs.Document.{entry_of}
use Rattle.genesis.specs.View.{entry_view}
use Rattle.genesis.proofs.Gathering.{IsPartFound}
use Rattle.genesis.proofs.document.entries_of.Given as goal

abbrev pub invariant-loop-value : goal.invariant-loop-value
invariant-loop-value l = IsPartFound view entry_view entry_of l.entries.items l.value-items l.value-index
