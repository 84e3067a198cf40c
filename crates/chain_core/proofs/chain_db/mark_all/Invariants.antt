use Rattle.std.proofs.Common.{take}
use Rattle.blockstore.specs.Stored.{IsSet}
use Rattle.chain_core.specs.ChainDbs.{AreMarked}
use Rattle.chain_core.proofs.chain_db.mark_all.Given as goal

-- the blocks of the hashes so far have their marks
abbrev pub invariant-loop-hash : goal.invariant-loop-hash
invariant-loop-hash g l = record {
  marked : AreMarked l.fn.store (take l.hash-index l.invalid) l.store;
  set : IsSet l.fn.store → IsSet l.store;
}
