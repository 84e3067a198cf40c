-- What is said of the texts of states, as a whole.
use Rattle.std.specs.Prelude.{◌≡◌, ◌≤◌, List, ℕ, length, Some}
use Rattle.std.specs.List.{AllByRecursion}
use Rattle.std.specs.FinMap as finite
use Rattle.model.specs.Limits.{hash_size}
use Rattle.model.specs.Cbor.{HasText}
use Rattle.model.specs.Block.{Block, IsBlock}
use Rattle.model.specs.Genesis.{supply_of}
use Rattle.model.specs.Ledger.{Network, Ledger, ledger_of}
use Rattle.model.specs.Chain.{genesis_tip, tip_after, IsValidChain}
use Rattle.model.specs.Transaction.{Input, Output}
use Rattle.snapshot.specs.Snapshot.{Snapshot, SpellsSnapshot, IsFront, IsPair, HoldsSupply, front_of, item_of_front}
use Rattle.snapshot.specs.Snapshot.{part_limit, pair_text}

-- a state has no more than one text
abbrev pub EachHasOneText : Type 0
EachHasOneText = (s : Snapshot) (a b : List (List ℕ)) → SpellsSnapshot s a → SpellsSnapshot s b → a ≡ b

-- a text is that of one state at most
abbrev pub EachIsOneSnapshot : Type 0
EachIsOneSnapshot = (s t : Snapshot) (parts : List (List ℕ)) → SpellsSnapshot s parts → SpellsSnapshot t parts → s ≡ t

-- the text of a pair fits into a part
pub record FitsAPart (pair : Input × Output) : Type 0 where
  pub is_pair : IsPair pair
  pub within : length (pair_text pair) ≤ part_limit

-- a state where a chain may end, whose numbers and lengths are in range, of which no output is too long for a part, has
-- a text
abbrev pub EachHasAText : Type 0
EachHasAText =
    (s : Snapshot) → IsFront (front_of s) → HasText (item_of_front (front_of s))
    → AllByRecursion FitsAPart (finite.entries s.utxo) → (parts : List (List ℕ)) × SpellsSnapshot s parts

-- the state in which a chain ends with this ledger, under a digest of what its network agrees on
abbrev pub ending : (digest : List ℕ) → (chain : List Block) → Ledger → Snapshot
ending digest chain m = record { tip = tip_after genesis_tip chain; fees = m.fees; digest = digest; utxo = m.utxo }

-- A valid chain whose blocks are in range ends where a chain may end, and its state holds as much lovelace as the
-- genesis granted.
abbrev pub EndsOfChains : Type 0
EndsOfChains =
    (network : Network) (chain : List Block) (m : Ledger) (digest : List ℕ) → IsValidChain network chain
    → AllByRecursion IsBlock chain → ledger_of network chain ≡ Some m → length digest ≡ hash_size
    → IsFront (front_of (ending digest chain m)) × HoldsSupply (supply_of network.genesis) (ending digest chain m)
