-- The genesis that a document writes, or the least fault of it, one stage after the other (the order is this project's
-- own).
use Rattle.std.specs.Prelude.{ℕ, ℤ, pos, negsuc, nat_le, nat_lt, ◌==◌, ◌&&◌, if◌then◌else◌, List, length}
use Rattle.std.specs.Prelude.{Option, Some, None, option_map}
use Rattle.std.specs.Prelude.{Result, Ok, sum_by}
use Rattle.std.specs.Result.{result_ok}
use Rattle.hex.specs.Hex.{decode_sized}
use Rattle.toml.specs.Parse.{parse_document}
use Rattle.model.specs.Limits.{hash_size, greatest_network, number_limit, greatest_number, k_limit, fee_rate_limit}
use Rattle.model.specs.Limits.{coin_limit, tx_size_limit, body_size_limit, volatile_limit, mempool_limit}
use Rattle.model.specs.Limits.{volatile_bytes_limit, grant_count_limit}
use Rattle.model.specs.Transaction.{Address, KeyHash, key_hash_of}
use Rattle.model.specs.Rules.{SecondEra, Params}
use Rattle.model.specs.Genesis.{Genesis, Grant}
use Rattle.tx.specs.Reading.{address_of_bytes}
use Rattle.genesis.specs.declared.genesis_fault.GenesisFault.{GenesisFault}
use Rattle.genesis.specs.declared.genesis_fault.GenesisFault.TheVariants as faults
use Rattle.genesis.specs.Steps.{◌>>=◌, each, or_fault}
use Rattle.genesis.specs.Document.{EraNumbers, Numbers, Lock, ByAddress, ByKey, Entry, Written, written_in}

-- ---- the numbers

-- a number in its range
abbrev pub within : (least most : ℕ) → ℤ → Option ℕ
within least most (pos n) = if nat_le least n && nat_le n most then Some n else None
within least most (negsuc n) = None

-- where one is written
unfoldable pub within_if : (least most : ℕ) → Option ℤ → Option (Option ℕ)
within_if least most None = Some None
within_if least most (Some number) = option_map (λ n. Some n) (within least most number)

-- the numbers of a second era, in their ranges
unfoldable pub era_of : EraNumbers → Option SecondEra
era_of numbers = do
  first_slot ← within 1 greatest_number numbers.first_slot
  per_asset ← within 0 coin_limit numbers.per_asset
  Some (record { first_slot = first_slot; per_asset = per_asset })

-- where they are written
unfoldable pub era_if_written : Option EraNumbers → Option (Option SecondEra)
era_if_written None = Some None
era_if_written (Some numbers) = option_map (λ era. Some era) (era_of numbers)

-- the numbers, in their ranges
pub record Settings : Type 0 where
  pub params : Params
  pub k : ℕ
  pub max_volatile : ℕ
  pub max_mempool : ℕ
  pub max_volatile_bytes : Option ℕ

unfoldable pub settings_of : Numbers → Option Settings
settings_of numbers = do
  network ← within 0 greatest_network numbers.network
  k ← within 1 k_limit numbers.k
  min_fee_a ← within 0 fee_rate_limit numbers.min_fee_a
  min_fee_b ← within 0 coin_limit numbers.min_fee_b
  min_utxo ← within 0 coin_limit numbers.min_utxo
  max_tx_size ← within 1 tx_size_limit numbers.max_tx_size
  max_body_size ← within 1 body_size_limit numbers.max_body_size
  max_volatile ← within 1 volatile_limit numbers.max_volatile
  max_mempool ← within 1 mempool_limit numbers.max_mempool
  max_volatile_bytes ← within_if 1 volatile_bytes_limit numbers.max_volatile_bytes
  second_era ← era_if_written numbers.second_era
  Some (record {
    params = record {
      network = network;
      min_fee_a = min_fee_a;
      min_fee_b = min_fee_b;
      min_utxo = min_utxo;
      max_tx_size = max_tx_size;
      max_body_size = max_body_size;
      second_era = second_era;
    };
    k = k;
    max_volatile = max_volatile;
    max_mempool = max_mempool;
    max_volatile_bytes = max_volatile_bytes;
  })

-- ---- the addresses

-- `count` bytes, written in hexadecimal digits of either case
abbrev pub decoded : List ℕ → (count : ℕ) → Option (List ℕ)
decoded text count = result_ok (decode_sized text count)

-- the address, where it is of this network
abbrev pub on_network : (network : ℕ) → Address → Option Address
on_network network address = if address.network == network then Some address else None

-- the address that its 33 bytes say, and the address on the network that the hash of a key of 32 bytes unlocks
unfoldable pub address_of_lock : (network : ℕ) → Lock → Option Address
address_of_lock network (ByAddress text) = do
  bytes ← decoded text 33
  address ← address_of_bytes bytes
  on_network network address
address_of_lock network (ByKey text) = do
  key ← decoded text hash_size
  Some (record { network = network; payment = KeyHash (key_hash_of key) })

-- an output whose address is known
pub record Placed : Type 0 where
  pub address : Address
  pub coin : ℤ

abbrev pub placed_of : (network : ℕ) → Entry → Option Placed
placed_of network entry = do
  address ← address_of_lock network entry.lock
  Some (record { address = address; coin = entry.coin })

-- ---- the coins

-- what is granted, which is something, and no more than there may be of all, 2^63 - 1
abbrev pub grant_of : Placed → Option Grant
grant_of placed = do
  coin ← within 1 greatest_number placed.coin
  Some (record { address = placed.address; coin = coin })

-- what is granted, where all of it is less than 2^63
abbrev pub limited : List Grant → Option (List Grant)
limited grants = if nat_lt (sum_by (λ g. g.coin) grants) number_limit then Some grants else None

unfoldable pub grants_of : List Placed → Option (List Grant)
grants_of placed = each grant_of placed >>= limited

-- ---- the genesis

-- one grant at least, and 10,000 at most
abbrev pub counted : List Grant → Option (List Grant)
counted grants = if nat_le 1 (length grants) && nat_le (length grants) grant_count_limit then Some grants else None

abbrev pub genesis_with : Settings → List Grant → Genesis
genesis_with settings grants =
    record {
      params = settings.params;
      k = settings.k;
      max_volatile = settings.max_volatile;
      max_volatile_bytes = settings.max_volatile_bytes;
      max_mempool = settings.max_mempool;
      grants = grants;
    }

-- the genesis of what is written
unfoldable pub judged : Written → Result Genesis GenesisFault
judged written =
    or_fault faults.OutOfRange (settings_of written.numbers) (λ settings.
    or_fault faults.BadAddress (each (placed_of settings.params.network) written.outputs) (λ placed.
    or_fault faults.BadCoin (grants_of placed) (λ grants.
    or_fault faults.BadOutputs (counted grants) (λ counted.
    Ok (genesis_with settings grants)))))

-- THE GENESIS OF A TEXT
-- What the text's document writes, or the fault of the first stage that has one.
unfoldable pub genesis_of : List ℕ → Result Genesis GenesisFault
genesis_of text =
    or_fault faults.NotToml (parse_document text) (λ document.
    or_fault faults.BadShape (written_in document) judged)
