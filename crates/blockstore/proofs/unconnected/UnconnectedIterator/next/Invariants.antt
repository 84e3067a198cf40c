-- What is still to come at the ages that are left is what was to come.
use Rattle.std.proofs.Common.{◌≡◌, length}
use Rattle.blockstore.specs.OffWays.{unnoted_at}
use Rattle.blockstore.proofs.unconnected.UnconnectedIterator.next.Given as goal

abbrev pub invariant-loop-age : goal.invariant-loop-age
invariant-loop-age g l = unnoted_at l.self-inside.blocks.now l.self-inside.ages ≡ l.fn.self

abbrev pub decreases-loop-age : goal.decreases-loop-age
decreases-loop-age g l = length l.self-inside.ages
