-- Those before this one fit a block.
use Rattle.block.proofs.FullBlocks.{IsPartFit}
use Rattle.block.proofs.full.first_too_deep.Given as goal

abbrev pub invariant-loop-tx : goal.invariant-loop-tx
invariant-loop-tx l = IsPartFit l.index l.tx-index l.transactions
