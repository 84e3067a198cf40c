-- Who holds an asset, and how much of it.
use Rattle.std.specs.Prelude.{◌≡◌, ◌≢◌, ◌<◌, ℕ, ℤ, pos, List, map, All, Contains}
use Rattle.std.specs.List.Sorted.{IsStrictlySortedBy}
use Rattle.model.specs.Value.{Asset}
use Rattle.model.specs.Utxo.{Utxo, sum_of}
use Rattle.watching.specs.Owned.{owner_cmp}
use Rattle.watching.specs.Balances.{outputs_of_owner}

-- how much of an asset the unspent outputs of an owner hold together
abbrev pub held_by : Asset → (owner : List ℕ) → Utxo → ℤ
held_by asset owner utxo = sum_of asset (outputs_of_owner owner utxo)

-- the owner holds this amount of the asset, and that is more than nothing
abbrev pub Holds : Asset → Utxo → List ℕ × ℕ → Type 0
Holds asset utxo holder = (0 < holder.1) × (held_by asset holder.0 utxo ≡ pos holder.1)

-- whose the amounts are
abbrev pub owners_of_amounts : List (List ℕ × ℕ) → List (List ℕ)
owners_of_amounts holders = map (λ h. h.0) holders

-- HOLDERS OF AN ASSET
-- Owners, each by the bytes of its address and with an amount, are the holders of an asset: they stand in the order of
-- these bytes, none of them twice; each holds its amount; and whoever holds some is among them.
pub record AreHolders (asset : Asset) (utxo : Utxo) (holders : List (List ℕ × ℕ)) : Type 0 where
  pub in_order : IsStrictlySortedBy owner_cmp (owners_of_amounts holders)
  pub hold : All (Holds asset utxo) holders
  pub all : (owner : List ℕ) → held_by asset owner utxo ≢ pos 0 → Contains (owners_of_amounts holders) owner

-- ONE LIST ALONE
-- Two lists that are both the holders of an asset among these outputs are equal.
abbrev pub HoldersAreOne : Type 0
HoldersAreOne = (asset : Asset) (utxo : Utxo) (one other : List (List ℕ × ℕ))
    → AreHolders asset utxo one → AreHolders asset utxo other → one ≡ other
