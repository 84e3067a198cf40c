-- Indexes beside followers: how they begin and go on, what is printed of them, and what they are to the node.
use Rattle.std.specs.Prelude.{◌≡◌, ℕ, List, [], ◌∷◌, ◌++◌, map, Contains, Option, Some, None, codes, ◌==◌}
use Rattle.std.specs.Prelude.{if◌then◌else◌}
use Rattle.std.specs.FinSet as set
use Rattle.model.specs.Transaction.{Address, address_bytes}
use Rattle.model.specs.Utxo.{Utxo}
use Rattle.model.specs.Genesis.{Genesis, opening_utxo}
use Rattle.model.specs.Ledger.{Network, Ledger, ledger_of}
use Rattle.model.specs.Chain.{genesis_tip, IsOpening}
use Rattle.model.specs.Follower.{Follower, follower_of, Instruction, Stay, IsNext}
use Rattle.model.specs.History.{State, Entry, Reply, Opened, Instructed, Forwarded, Closed, IsLegal}
use Rattle.model.specs.History.{ChainTheorem}
use Rattle.watching.specs.Which.{Which, Addresses, watched_among}
use Rattle.watching.specs.Chains.{Watched, only_outputs}
use Rattle.watching.specs.Ledgers.{IsTaken}
use Rattle.watching.specs.Settled.{HasFollowed}
use Rattle.script.specs.Names.{Named}
use Rattle.script.specs.Line.{OwnedByKey}
use Rattle.scenario.specs.Balances.{outputs_of_address, IsBalanceText}

-- an index that follows, and the keys of which it tells what they have, each with its address
pub record KeyIndex : Type 0 where
  pub index : Watched
  pub keys : List (Named Address)

-- the indexes beside followers, by the numbers of these, and the genesis with which each begins
pub record Indexes : Type 0 where
  pub genesis : Genesis
  pub of_follower : ℕ → Option KeyIndex

abbrev pub no_indexes : Genesis → Indexes
no_indexes genesis = record { genesis = genesis; of_follower = λ id. None }

-- the follower of this number has this index beside it, or none
abbrev pub with_index : (id : ℕ) → Option KeyIndex → Indexes → Indexes
with_index id index indexes =
    record indexes { of_follower = λ other. if other == id then index else indexes.of_follower other }

-- which outputs are those of these keys
abbrev pub outputs_of_keys : List (Named Address) → Which
outputs_of_keys keys = Addresses (set.from_list (map (λ key. address_bytes key.bound) keys))

-- an index of these outputs before the first block
abbrev pub index_before_blocks : Genesis → Which → Watched
index_before_blocks genesis which =
    record {
      k = genesis.k;
      which = which;
      last = record { tip = genesis_tip; tables = only_outputs (watched_among which (opening_utxo genesis)) };
      older = [];
    }

-- an index of what these keys have, before the first block
abbrev pub first_index : Genesis → List (Named Address) → KeyIndex
first_index genesis keys = record { index = index_before_blocks genesis (outputs_of_keys keys); keys = keys }

-- Once an opening was answered, the new follower has an index of what these keys have. Where none was opened nothing
-- changes.
abbrev pub indexes_opened : List (Named Address) → Indexes → Reply → Indexes
indexes_opened keys indexes (Opened id) = with_index id (Some (first_index indexes.genesis keys)) indexes
indexes_opened keys indexes reply = indexes

-- Once a follower was told what comes next, the index beside it has taken that, or it can't and is given up. At any
-- other answer it stays as it was.
abbrev pub IsIndexAfter : (old : Option KeyIndex) → Reply → (new : Option KeyIndex) → Type 0
IsIndexAfter None reply new = new ≡ None
IsIndexAfter (Some old) (Instructed instruction) (Some new) =
    IsTaken old.index instruction new.index × (new.keys ≡ old.keys)
IsIndexAfter (Some old) (Instructed instruction) None = (next : Watched) → IsTaken old.index instruction next → ⊥
IsIndexAfter (Some old) reply new = new ≡ Some old

-- a follower that was set to a point has no index any more
abbrev pub indexes_forwarded : (id : ℕ) → Indexes → Reply → Indexes
indexes_forwarded id indexes (Forwarded (Some point)) = with_index id None indexes
indexes_forwarded id indexes reply = indexes

-- nor has one that was closed
abbrev pub indexes_closed : (id : ℕ) → Indexes → Reply → Indexes
indexes_closed id indexes Closed = with_index id None indexes
indexes_closed id indexes reply = indexes

-- ---- what is printed

-- what each of these keys has of these outputs, as `balance` prints it, one after the other
abbrev pub AreBalancesText : Utxo → List (Named Address) → List ℕ → Type 0
AreBalancesText utxo [] out = out ≡ []
AreBalancesText utxo (key ∷ keys) out = (first : List ℕ) × (rest : List ℕ)
    × IsBalanceText (outputs_of_address key.bound utxo) (OwnedByKey key.name) first
    × AreBalancesText utxo keys rest × (out ≡ first ++ rest)

-- what is printed behind what a follower of this name is told: what its keys have by the index, or that the index was
-- given up; nothing where it has none
abbrev pub IsIndexText : (name : List ℕ) → (old new : Option KeyIndex) → List ℕ → Type 0
IsIndexText name None new out = out ≡ []
IsIndexText name (Some old) (Some new) out = AreBalancesText new.index.last.tables.outputs new.keys out
IsIndexText name (Some old) None out = out ≡ codes "watch " ++ (name ++ (codes ": lost" ++ 10 ∷ []))

-- ---- what an index is to the node

-- After this history the follower of the number is open. The index beside it began at genesis, where the follower was
-- last set, with the network's k, has taken each instruction that the follower was given since, and watches the outputs
-- of its keys.
pub record IsBeside (network : Network) (history : List Entry) (state : State) (id : ℕ) (at : KeyIndex)
    : Type 0 where
  pub follower : Follower
  pub is_open : follower_of state.followers id ≡ Some follower
  pub followed : HasFollowed network history id follower.told at.index
  pub from_genesis : followed.was_told.start ≡ []
  pub k : at.index.k ≡ network.genesis.k
  pub of_keys : at.index.which ≡ outputs_of_keys at.keys

-- so each of these indexes
abbrev pub AreBeside : Network → List Entry → State → Indexes → Type 0
AreBeside network history state indexes = (id : ℕ) (at : KeyIndex) → indexes.of_follower id ≡ Some at
    → IsBeside network history state id at

-- The selected chain has a ledger, and by the index each of its keys has just the outputs that it has in that ledger:
-- what is printed of the index is what `balance` prints of each key.
pub record IsLedgerOfKeys (network : Network) (state : State) (at : KeyIndex) : Type 0 where
  pub ledger : Ledger
  pub is_ledger : ledger_of network state.chain ≡ Some ledger
  pub of_key : (key : Named Address) → Contains at.keys key
      → outputs_of_address key.bound at.index.last.tables.outputs ≡ outputs_of_address key.bound ledger.utxo
  pub printed : (out : List ℕ) → AreBalancesText at.index.last.tables.outputs at.keys out
      → AreBalancesText ledger.utxo at.keys out

-- BALANCES BY AN INDEX
-- Once nothing is left to tell its follower, what an index tells of its keys is what the node tells of them.
abbrev pub BalancesAreTheNodes : Type 0
BalancesAreTheNodes = (network : Network) (history : List Entry) (state : State) (id : ℕ) (at : KeyIndex)
    → ChainTheorem network history state → (beside : IsBeside network history state id at)
    → IsNext state.chain beside.follower Stay beside.follower → IsLedgerOfKeys network state at

-- NO INDEX IS LOST
-- Of a node that was opened on a valid chain, an index beside a follower can take whatever that follower is told next.
abbrev pub IndexesGoOn : Type 0
IndexesGoOn = (network : Network) (history : List Entry) (state : State) (id : ℕ) (at : KeyIndex)
    → IsOpening network → IsLegal network history state → (beside : IsBeside network history state id at)
    → (instruction : Instruction) (next : Follower) → IsNext state.chain beside.follower instruction next
    → (new : Watched) × IsTaken at.index instruction new
