-- What the fields of a core stand for.
use Rattle.model.specs.Signature.{Verifies}
use Rattle.std.specs.Prelude.{take}
use Rattle.model.specs.Chain.{IsOpening}
use Rattle.blockstore.specs.Stored.{blocks_of}
use Rattle.chain.specs.Chained.{chain_of}
use Rattle.chain_core.specs.declared.node_core.Core.TheInside.{Inside}
use Rattle.chain_core.specs.ChainDbs.{IsWhole}
use Rattle.chain_core.specs.Held.{Held, held_of, network_held}
use Rattle.chain_core.specs.Steps.{IsReached}

abbrev pub held : {S : Type 0} → Inside S → Held
held a =
    held_of a.genesis (take a.chain_db.opened (chain_of a.chain_db.chain)) (blocks_of a.chain_db.store)
    (chain_of a.chain_db.chain) a.chain_db.mempool.waiting.txs a.followers

-- the selected chain, the live blocks, the states and the mempool belong together, and a legal history leads to what
-- is held
pub record IsSoundInside {S : Type 0} (verifies : Verifies) (a : Inside S) : Type 0 where
  pub opens : IsOpening (network_held (held a) verifies)
  pub whole : IsWhole (network_held (held a) verifies) a.chain_db
  pub reached : IsReached (network_held (held a) verifies) (held a)
