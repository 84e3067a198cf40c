-- An index beside a node whose follower has nothing left to be told.
use Rattle.std.specs.Prelude.{◌≡◌, ℕ, IsTrue, List, [], Some}
use Rattle.std.specs.FinSet as set
use Rattle.model.specs.Transaction.{Address, address_bytes}
use Rattle.model.specs.Block.{Block}
use Rattle.model.specs.Chain.{IsOpening}
use Rattle.model.specs.Follower.{Follower, follower_of, Instruction, Stay, IsNext}
use Rattle.model.specs.Genesis.{opening_utxo}
use Rattle.model.specs.Ledger.{Network, Ledger, ledger_of}
use Rattle.model.specs.History.{State, Entry, IsLegal, WasTold, instructions_to, ChainTheorem}
use Rattle.watching.specs.Which.{Which, All, Addresses, Policies, watched_among}
use Rattle.watching.specs.Chains.{Watched, IsIndexOf}
use Rattle.watching.specs.Ledgers.{IsTaken, AreTaken}
use Rattle.watching.specs.Balances.{outputs_with}

-- the index began where the follower of this number was last set, and took each instruction that it was given since
pub record HasFollowed (network : Network) (history : List Entry) (id : ℕ) (told : List Block) (w : Watched)
    : Type 0 where
  pub was_told : WasTold network history id told
  pub began : Watched
  pub begins : IsIndexOf (opening_utxo network.genesis) was_told.start [] began
  pub taken : AreTaken began (instructions_to id was_told.since) w

-- of a node of which the chain theorem holds, an index that followed an open follower to which nothing is left to tell
pub record IsSettled (network : Network) (history : List Entry) (state : State) (w : Watched) : Type 0 where
  pub theorem : ChainTheorem network history state
  pub id : ℕ
  pub follower : Follower
  pub is_open : follower_of state.followers id ≡ Some follower
  pub followed : HasFollowed network history id follower.told w
  pub nothing_left : IsNext state.chain follower Stay follower

-- each output of the address is watched, whatever it holds
abbrev pub WatchesAddress : Which → Address → Type 0
WatchesAddress All address = Unit {0}
WatchesAddress (Addresses addresses) address = IsTrue (set.contains addresses (address_bytes address))
WatchesAddress (Policies policies) address = ⊥

-- what the selected chain's ledger is to such an index
pub record IsLedgerFor (network : Network) (state : State) (w : Watched) : Type 0 where
  pub ledger : Ledger
  pub is_ledger : ledger_of network state.chain ≡ Some ledger
  pub outputs : w.last.tables.outputs ≡ watched_among w.which ledger.utxo
  pub of_address : (address : Address) → WatchesAddress w.which address
      → outputs_with address w.last.tables.outputs ≡ outputs_with address ledger.utxo

-- AN INDEX BESIDE THE NODE
-- Once nothing is left to tell its follower, the outputs of an index are those that it watches of the UTXO of the
-- selected chain, which has a ledger. So an address of which it watches each output has by the index just the outputs
-- that it has by the node.
abbrev pub IndexIsTheNodes : Type 0
IndexIsTheNodes = (network : Network) (history : List Entry) (state : State) (w : Watched)
    → IsSettled network history state w → IsLedgerFor network state w

-- WHAT IS TOLD IS TAKEN
-- Of a node that was opened on a valid chain: an index that began when a follower was opened, with the network's k, and
-- took each instruction that the follower was given since, can take whatever it is told next.
abbrev pub ToldAreTaken : Type 0
ToldAreTaken = (network : Network) (history : List Entry) (state : State) (id : ℕ) (follower : Follower) (w : Watched)
    → IsOpening network → IsLegal network history state → follower_of state.followers id ≡ Some follower
    → (followed : HasFollowed network history id follower.told w) → followed.was_told.start ≡ []
    → w.k ≡ network.genesis.k
    → (instruction : Instruction) (next : Follower) → IsNext state.chain follower instruction next
    → (new : Watched) × IsTaken w instruction new
