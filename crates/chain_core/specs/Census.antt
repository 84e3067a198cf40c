-- How much a core holds, in numbers.
use Rattle.std.specs.Prelude.{◌≡◌, ℕ, length, map, sum, Some}
use Rattle.std.specs.FinMap as finite
use Rattle.model.specs.Transaction.{size_of}
use Rattle.model.specs.Utxo.{Utxo}
use Rattle.model.specs.Ledger.{Network}
use Rattle.model.specs.Chain.{genesis_tip, tip_after, immutable_length}
use Rattle.model.specs.Mempool.{utxo_of}
use Rattle.model.specs.History.{State, live_of}
use Rattle.followers.specs.Places.{open_count}
use Rattle.chain_core.specs.declared.census.Census.{Census}

-- CENSUS
-- Each number is that of the state: of its chain and the part that no rollback reaches, of its live blocks, of its
-- mempool with the bytes of these transactions, of the chain's unspent outputs, and of the followers that are open.
pub record IsCensus (network : Network) (s : State) (census : Census) : Type 0 where
  pub height : census.height ≡ length s.chain
  pub slot : census.slot ≡ (tip_after genesis_tip s.chain).slot
  pub immutable : census.immutable ≡ immutable_length network s.chain
  pub live : census.live ≡ length (live_of network s)
  pub waiting : census.waiting ≡ length s.mempool
  pub waiting_bytes : census.waiting_bytes ≡ sum (map size_of s.mempool)
  pub outputs : (utxo : Utxo) × (utxo_of network s.chain ≡ Some utxo) × (census.outputs ≡ finite.len utxo)
  pub followers : census.followers ≡ open_count s.followers
