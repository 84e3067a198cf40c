-- What an index tells of transactions, as lists over the blocks of a chain.
use Rattle.std.specs.Prelude.{◌≡◌, ℕ, suc, Bool, List, [], ◌∷◌, ◌++◌, reverse, if◌then◌else◌, bytes_eq}
use Rattle.std.specs.Prelude.{Option, Some, None}
use Rattle.std.specs.List.{list_any}
use Rattle.std.specs.FinMap as finite
use Rattle.model.specs.Transaction.{Transaction, transaction_id_of}
use Rattle.model.specs.Utxo.{Utxo, utxo_after}
use Rattle.model.specs.Mempool.{utxo_after_all}
use Rattle.model.specs.Block.{Block, Header}
use Rattle.watching.specs.Which.{Which}
use Rattle.watching.specs.Histories.{Inclusion, inclusion_in, history_at, owners_in, is_told}
use Rattle.watching.specs.Chains.{unspent_of, Watched, IsIndexOf}

-- a transaction's identifier, with its inclusion
abbrev pub Entry : Type 0
Entry = Inclusion × List ℕ

-- the entry of a transaction, or none
abbrev pub entry_if : Bool → Header → (index : ℕ) → Transaction → List Entry
entry_if is header index t = if is then (inclusion_in header index, transaction_id_of t) ∷ [] else []

-- the entries of a block's transactions from this index on, of those that pass the test on what stands before them
abbrev pub entries_in : (Utxo → Transaction → Bool) → Header → (index : ℕ) → Utxo → List Transaction → List Entry
entries_in test header index utxo [] = []
entries_in test header index utxo (t ∷ ts) =
    entry_if (test utxo t) header index t ++ entries_in test header (suc index) (utxo_after utxo t) ts

-- so of the blocks of a chain, in their order
abbrev pub entries_of : (Utxo → Transaction → Bool) → Utxo → List Block → List Entry
entries_of test utxo [] = []
entries_of test utxo (b ∷ bs) =
    entries_in test b.header 0 utxo b.transactions ++ entries_of test (utxo_after_all utxo b.transactions) bs

-- ---- an owner's history

-- the transaction spends a watched output of the owner, or makes one, where these outputs stand
abbrev pub concerns : Which → (owner : List ℕ) → Utxo → Transaction → Bool
concerns which owner utxo t = list_any (bytes_eq owner) (owners_in which utxo t)

-- HISTORY OF A CHAIN
-- What an index tells of an owner are the transactions that spent a watched output of it or made one, in the blocks
-- since the index began, the newest first.
abbrev pub HistoriesAreTheChains : Type 0
HistoriesAreTheChains = (granted : Utxo) (past since : List Block) (w : Watched) (owner : List ℕ)
    → IsIndexOf granted past since w
    → finite.entries (history_at w.last.tables.histories owner)
    ≡ reverse (entries_of (concerns w.which owner) (unspent_of granted past) since)

-- ---- where a transaction was put on

-- the later one, if there is one
abbrev pub or_first : (later first : Option Inclusion) → Option Inclusion
or_first None first = first
or_first (Some later) first = Some later

-- the last inclusion of this identifier among these entries
abbrev pub last_of : (id : List ℕ) → List Entry → Option Inclusion
last_of id [] = None
last_of id (e ∷ es) = or_first (last_of id es) (if bytes_eq e.1 id then Some e.0 else None)

-- INCLUSIONS OF A CHAIN
-- What an index tells of a transaction is where it was put on last, in the blocks since the index began, if it spent a
-- watched output there or made one; of each transaction, where all outputs are watched.
abbrev pub InclusionsAreTheChains : Type 0
InclusionsAreTheChains = (granted : Utxo) (past since : List Block) (w : Watched) (id : List ℕ)
    → IsIndexOf granted past since w
    → finite.get w.last.tables.inclusions id
    ≡ last_of id (entries_of (is_told w.which) (unspent_of granted past) since)
