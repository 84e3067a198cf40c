use Rattle.std.proofs.Common.{◌-◌, length}
use Rattle.std.specs.Prelude.{IfSome}
use Rattle.chain.specs.Chained.{chain_of}
use Rattle.chainsel.specs.Founds.{AreFound}
use Rattle.chainsel.specs.Choices.{AreDeadInAll, IsSideInAll}
use Rattle.chainsel.proofs.search.search.Given as goal

-- what was found dead so far is dead, no block was found twice, and the state beside the chain is one of blocks at hand
abbrev pub invariant-loop-side : goal.invariant-loop-side
invariant-loop-side g l = record {
  found : AreFound l.store l.found.hashes.items;
  dead : AreDeadInAll g.S.SigScheme.verifies (chain_of l.chain) l.store l.db l.new l.found.hashes.items;
  beside : IfSome l.side (IsSideInAll g.S.SigScheme.verifies (chain_of l.chain) l.store l.db l.new);
}

-- the live blocks that aren't found dead
abbrev pub decreases-loop-side : goal.decreases-loop-side
decreases-loop-side g l = length l.store.blocks - length l.found.hashes.items
