-- A genesis as JSON, by the names of its file's keys.
use Rattle.std.specs.Prelude.{ℕ, [], ◌∷◌, codes, option_map}
use Rattle.serde_json.specs.Data.{Data, string}
use Rattle.model.specs.Rules.{SecondEra}
use Rattle.model.specs.Genesis.{Grant, Genesis, supply_of}
use Rattle.genesis.specs.Meaning.{scheme_name}
use Rattle.genesis.specs.declared.scheme.Scheme.{Scheme}
use Rattle.describing.specs.Parts.{json_of_number, json_of_given, json_list, object_of}
use Rattle.describing.specs.Transactions.{json_of_address}

-- an output that stands there from the start: its address and its coin
abbrev pub json_of_grant : Grant → Data
json_of_grant grant = object_of (
    (codes "address", json_of_address grant.address)
    ∷ (codes "coin", json_of_number grant.coin) ∷ [])

-- the slot from which outputs have to hold more for their assets, and how much for each
abbrev pub era_slot : SecondEra → ℕ
era_slot era = era.first_slot

abbrev pub era_price : SecondEra → ℕ
era_price era = era.per_asset

-- A GENESIS AS JSON: its network, by what scheme signatures are judged, what it asks of transactions and of bodies, how
-- much a node keeps, the lovelace that there is, and its outputs
abbrev pub json_of_genesis : Scheme → Genesis → Data
json_of_genesis scheme genesis = object_of (
    (codes "era2_slot", json_of_given (option_map era_slot genesis.params.second_era))
    ∷ (codes "k", json_of_number genesis.k)
    ∷ (codes "max_body_size", json_of_number genesis.params.max_body_size)
    ∷ (codes "max_mempool", json_of_number genesis.max_mempool)
    ∷ (codes "max_tx_size", json_of_number genesis.params.max_tx_size)
    ∷ (codes "max_volatile", json_of_number genesis.max_volatile)
    ∷ (codes "max_volatile_bytes", json_of_given genesis.max_volatile_bytes)
    ∷ (codes "min_fee_a", json_of_number genesis.params.min_fee_a)
    ∷ (codes "min_fee_b", json_of_number genesis.params.min_fee_b)
    ∷ (codes "min_utxo", json_of_number genesis.params.min_utxo)
    ∷ (codes "network", json_of_number genesis.params.network)
    ∷ (codes "outputs", json_list json_of_grant genesis.grants)
    ∷ (codes "per_asset", json_of_given (option_map era_price genesis.params.second_era))
    ∷ (codes "scheme", string (scheme_name scheme))
    ∷ (codes "supply", json_of_number (supply_of genesis)) ∷ [])
