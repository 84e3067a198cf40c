-- Names of five kinds, and the transaction that is being made.
use Rattle.std.specs.Prelude.{ℕ, Bool, false, List, [], ◌∷◌, ◌++◌, Option, Some, None, option_map, unwrap_or, bytes_eq}
use Rattle.std.specs.Prelude.{codes}
use Rattle.std.specs.List.{find}
use Rattle.model.specs.Chain.{Point}
use Rattle.model.specs.Script.{Script}
use Rattle.model.specs.Transaction.{Transaction, transaction_id_of}
use Rattle.genesis.specs.declared.scheme.Scheme.{Scheme}
use Rattle.draft.specs.Draft.{Draft}
use Rattle.script.specs.Keys.{Key}

-- a name with what it is bound to
pub record Named (A : Type 0) : Type 0 where
  pub name : List ℕ
  pub bound : A

-- what is bound to a name
abbrev pub bound_to : {A : Type 0} → List ℕ → List (Named A) → Option A
bound_to name names = option_map (λ b. b.bound) (find (λ b. bytes_eq name b.name) names)

-- bytes that have a name, and where they are those of a `block` or `forge` line the block's place on its chain
pub record Bound : Type 0 where
  pub bytes : List ℕ
  pub place : Option Point

-- a name of bytes
abbrev pub Binding : Type 0
Binding = Named Bound

-- whether the place is that of a block with this hash
abbrev pub has_hash : List ℕ → Option Point → Bool
has_hash hash None = false
has_hash hash (Some place) = bytes_eq hash place.hash

-- the first name that was bound to a block with this hash
abbrev pub first_name : List ℕ → List Binding → Option (List ℕ)
first_name hash names = option_map (λ b. b.name) (find (λ b. has_hash hash b.bound.place) names)

-- a block is printed by this name, or by a question mark where it has none
abbrev pub printed_name : List ℕ → List Binding → List ℕ
printed_name hash names = unwrap_or (first_name hash names) (codes "?")

-- the first name that was bound to a transaction of this identifier
abbrev pub first_tx_name : List ℕ → List (Named Transaction) → Option (List ℕ)
first_tx_name id names = option_map (λ b. b.name) (find (λ b. bytes_eq id (transaction_id_of b.bound)) names)

-- a transaction is printed by this name, or by a question mark where it has none
abbrev pub printed_tx : List ℕ → List (Named Transaction) → List ℕ
printed_tx id names = unwrap_or (first_tx_name id names) (codes "?")

-- a transaction between its line `tx`, of this number, and its line `end`
pub record OpenTx : Type 0 where
  pub name : List ℕ
  pub line : ℕ
  pub draft : Draft

-- All names of a script, each kind in the order in which they were bound, and the transaction that is being made. One
-- name may be of each kind. Addresses are those of this network, and keys sign by this scheme.
pub record AllNames : Type 0 where
  pub scheme : Scheme
  pub network : ℕ
  pub of_keys : List (Named Key)
  pub of_scripts : List (Named Script)
  pub of_txs : List (Named Transaction)
  pub of_bytes : List Binding
  pub of_followers : List (Named ℕ)
  pub making : Option OpenTx

-- before the first line no name is bound
abbrev pub no_names : Scheme → (network : ℕ) → AllNames
no_names scheme network =
    record {
      scheme = scheme;
      network = network;
      of_keys = [];
      of_scripts = [];
      of_txs = [];
      of_bytes = [];
      of_followers = [];
      making = None;
    }

-- the names with one more of a follower
abbrev pub with_follower : AllNames → Named ℕ → AllNames
with_follower names follower = record names { of_followers = names.of_followers ++ follower ∷ [] }

-- the names with one more of bytes
abbrev pub with_bytes : AllNames → Binding → AllNames
with_bytes names binding = record names { of_bytes = names.of_bytes ++ binding ∷ [] }
