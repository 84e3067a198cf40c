-- What a network agrees on before its first block, and the unspent outputs that its chain opens with. The limits are
-- this project's own.
use Rattle.std.specs.Prelude.{◌≡◌, ℕ, ◌≤◌, ◌<◌, List, [], length, map, replicate, sum_by, Option, Some, None, IfSome}
use Rattle.std.specs.List.{AllByRecursion}
use Rattle.std.specs.FinMap as finite
use Rattle.model.specs.Limits.{hash_size, greatest_network, number_limit, greatest_number, k_limit, fee_rate_limit}
use Rattle.model.specs.Limits.{coin_limit, tx_size_limit, body_size_limit, volatile_limit, mempool_limit}
use Rattle.model.specs.Limits.{volatile_bytes_limit, grant_count_limit}
use Rattle.model.specs.Transaction.{Address, Input, Output, IsAddress}
use Rattle.model.specs.Utxo.{Utxo, pairs_from, with_pairs}
use Rattle.model.specs.Rules.{Params, SecondEra}

-- an amount of lovelace, which stands at an address from the start
pub record Grant : Type 0 where
  pub address : Address
  pub coin : ℕ

pub record Genesis : Type 0 where
  pub params : Params  -- what it asks of each transaction and each block's body
  pub k : ℕ  -- how many blocks of the selected chain may be rolled back
  pub max_volatile : ℕ  -- how many live blocks are kept at most
  pub max_volatile_bytes : Option ℕ  -- how many bytes these have at most; none where that isn't bounded
  pub max_mempool : ℕ  -- how many transactions wait at most
  pub grants : List Grant

-- the lovelace that there is from the start, and ever after
abbrev pub supply_of : Genesis → ℕ
supply_of genesis = sum_by (λ g. g.coin) genesis.grants

-- this many bytes are more than a bound, where there is one
abbrev pub IsOver : Option ℕ → (bytes : ℕ) → Type 0
IsOver None bytes = ⊥
IsOver (Some most) bytes = most < bytes

-- ---- ranges

-- at least the first and at most the second
pub record IsWithin (least most number : ℕ) : Type 0 where
  pub not_below : least ≤ number
  pub not_above : number ≤ most

-- it does not begin with the genesis, whose slot is 0, and it begins at a slot that a block may have
pub record IsSecondEra (era : SecondEra) : Type 0 where
  pub first_slot : IsWithin 1 greatest_number era.first_slot
  pub per_asset : IsWithin 0 coin_limit era.per_asset

pub record IsParams (params : Params) : Type 0 where
  pub network : IsWithin 0 greatest_network params.network
  pub min_fee_a : IsWithin 0 fee_rate_limit params.min_fee_a
  pub min_fee_b : IsWithin 0 coin_limit params.min_fee_b
  pub min_utxo : IsWithin 0 coin_limit params.min_utxo
  pub max_tx_size : IsWithin 1 tx_size_limit params.max_tx_size
  pub max_body_size : IsWithin 1 body_size_limit params.max_body_size
  pub second_era : IfSome params.second_era IsSecondEra

-- it grants something, at an address of this network
pub record IsGrant (network : ℕ) (grant : Grant) : Type 0 where
  pub address : IsAddress grant.address
  pub on_network : grant.address.network ≡ network
  pub something : 1 ≤ grant.coin

pub record IsGenesis (genesis : Genesis) : Type 0 where
  pub ranges : IsParams genesis.params
  pub k : IsWithin 1 k_limit genesis.k
  pub max_volatile : IsWithin 1 volatile_limit genesis.max_volatile
  pub max_volatile_bytes : IfSome genesis.max_volatile_bytes (IsWithin 1 volatile_bytes_limit)
  pub max_mempool : IsWithin 1 mempool_limit genesis.max_mempool
  pub each_grant : AllByRecursion (IsGrant genesis.params.network) genesis.grants
  pub supply : supply_of genesis < number_limit
  pub count : IsWithin 1 grant_count_limit (length genesis.grants)

-- ---- the opening of the chain

-- the identifier that stands for the transaction which no block has: 32 zero bytes
unfoldable pub opening_id : List ℕ
opening_id = replicate hash_size 0

-- what is granted, as an output: lovelace alone
abbrev pub output_of_grant : Grant → Output
output_of_grant grant = record { address = grant.address; value = record { coin = grant.coin; assets = [] } }

-- the grants, each with the input that would spend it: they are counted from 0 on
abbrev pub opening_pairs : Genesis → List (Input × Output)
opening_pairs genesis = pairs_from opening_id 0 (map output_of_grant genesis.grants)

-- UNSPENT OUTPUTS BEFORE THE FIRST BLOCK
-- Each grant, and nothing else.
unfoldable pub opening_utxo : Genesis → Utxo
opening_utxo genesis = with_pairs (opening_pairs genesis) finite.empty
