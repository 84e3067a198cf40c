-- The blocks so far are those of the texts so far, on the same genesis.
use Rattle.std.proofs.Common.{◌≡◌, take}
use Rattle.chain_core.specs.Immutable.{texts_of}
use Rattle.chain_core.specs.Reopening.{texts_in}
use Rattle.chain_core.proofs.node_core.Core.reopen.Given as goal

abbrev pub invariant-loop-bytes : goal.invariant-loop-bytes
invariant-loop-bytes g l = record {
  genesis : l.reopening.genesis ≡ l.fn.genesis;
  texts : texts_of l.reopening.chain ≡ texts_in (take l.bytes-index l.blocks);
}
