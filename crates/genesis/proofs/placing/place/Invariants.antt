-- The outputs that have their addresses and those that are still to look at are the whole.
use Rattle.genesis.specs.Judgement.{placed_of}
use Rattle.genesis.specs.View.{entry_view, placed_view}
use Rattle.genesis.proofs.Gathering.{IsPartFound}
use Rattle.genesis.proofs.placing.place.Given as goal

abbrev pub invariant-loop-entry : goal.invariant-loop-entry
invariant-loop-entry l = IsPartFound entry_view placed_view (placed_of l.network) l.placed.items l.entries l.entry-index
