-- What a genesis document writes, in any range: TOML (v1.0.0) with just the keys of a genesis, which are this project's
-- own.
use Rattle.std.specs.Prelude.{ℕ, ℤ, Bool, true, ◌&&◌, if◌then◌else◌, List, [], ◌∷◌, Option, Some, None, option_map}
use Rattle.std.specs.Prelude.{codes, bytes_eq}
use Rattle.std.specs.List.{list_any}
use Rattle.toml.specs.Data.{Data, Items, no_items, item, Members, no_members, member}
use Rattle.toml.specs.Data.{get_member, as_integer, as_str, as_array, as_table}
use Rattle.genesis.specs.declared.scheme.Scheme.{Scheme}
use Rattle.genesis.specs.declared.scheme.Scheme.TheVariants as schemes
use Rattle.genesis.specs.Steps.{◌>>=◌, guard, each}

-- the two numbers of a second era
pub record EraNumbers : Type 0 where
  pub first_slot : ℤ
  pub per_asset : ℤ

-- the nine numbers that each genesis has, a bound of bytes, and those of a second era
pub record Numbers : Type 0 where
  pub network : ℤ
  pub k : ℤ
  pub min_fee_a : ℤ
  pub min_fee_b : ℤ
  pub min_utxo : ℤ
  pub max_tx_size : ℤ
  pub max_body_size : ℤ
  pub max_volatile : ℤ
  pub max_mempool : ℤ
  pub max_volatile_bytes : Option ℤ
  pub second_era : Option EraNumbers

-- what unlocks an output: an address, or a key, each as its hexadecimal text
pub data Lock : Type 0 where
  ByAddress : List ℕ → Lock
  ByKey : List ℕ → Lock

-- an output: what unlocks it, and how much lovelace it holds
pub record Entry : Type 0 where
  pub lock : Lock
  pub coin : ℤ

pub record Written : Type 0 where
  pub numbers : Numbers
  pub scheme : Scheme
  pub outputs : List Entry

-- ---- keys

-- the key is one of these
abbrev pub is_known : List (List ℕ) → List ℕ → Bool
is_known known key = list_any (λ name. bytes_eq name key) known

-- the table has no other keys
abbrev pub has_only : List (List ℕ) → Members → Bool
has_only known no_members = true
has_only known (member key value rest) = is_known known key && has_only known rest

-- the keys of a genesis
abbrev pub genesis_keys : List (List ℕ)
genesis_keys =
    codes "network" ∷ codes "k" ∷ codes "min_fee_a" ∷ codes "min_fee_b" ∷ codes "min_utxo" ∷ codes "max_tx_size"
    ∷ codes "max_body_size" ∷ codes "max_volatile" ∷ codes "max_mempool" ∷ codes "max_volatile_bytes"
    ∷ codes "era2_slot" ∷ codes "per_asset" ∷ codes "output" ∷ codes "scheme" ∷ []

-- the keys of an output
abbrev pub entry_keys : List (List ℕ)
entry_keys = codes "address" ∷ codes "key" ∷ codes "coin" ∷ []

-- the whole number at a key
abbrev pub number_at : List ℕ → Members → Option ℤ
number_at key document = get_member key document >>= as_integer

-- a whole number, where something stands there
abbrev pub number_if : Option Data → Option (Option ℤ)
number_if None = Some None
number_if (Some value) = option_map (λ number. Some number) (as_integer value)

-- the whole number at a key, where something stands there
unfoldable pub number_if_at : List ℕ → Members → Option (Option ℤ)
number_if_at key document = number_if (get_member key document)

-- ---- the numbers

-- both numbers of a second era, or neither
abbrev pub both_or_none : Option Data → Option Data → Option (Option EraNumbers)
both_or_none None None = Some None
both_or_none (Some slot) (Some coin) = do
  first_slot ← as_integer slot
  per_asset ← as_integer coin
  Some (Some (record { first_slot = first_slot; per_asset = per_asset }))
both_or_none (Some slot) None = None
both_or_none None (Some coin) = None

-- a second era, which begins at `era2_slot`, if there is one
unfoldable pub era_in : Members → Option (Option EraNumbers)
era_in document = both_or_none (get_member (codes "era2_slot") document) (get_member (codes "per_asset") document)

unfoldable pub numbers_in : Members → Option Numbers
numbers_in document = do
  network ← number_at (codes "network") document
  k ← number_at (codes "k") document
  min_fee_a ← number_at (codes "min_fee_a") document
  min_fee_b ← number_at (codes "min_fee_b") document
  min_utxo ← number_at (codes "min_utxo") document
  max_tx_size ← number_at (codes "max_tx_size") document
  max_body_size ← number_at (codes "max_body_size") document
  max_volatile ← number_at (codes "max_volatile") document
  max_mempool ← number_at (codes "max_mempool") document
  max_volatile_bytes ← number_if_at (codes "max_volatile_bytes") document
  second_era ← era_in document
  Some (record {
    network = network;
    k = k;
    min_fee_a = min_fee_a;
    min_fee_b = min_fee_b;
    min_utxo = min_utxo;
    max_tx_size = max_tx_size;
    max_body_size = max_body_size;
    max_volatile = max_volatile;
    max_mempool = max_mempool;
    max_volatile_bytes = max_volatile_bytes;
    second_era = second_era;
  })

-- ---- the scheme

-- the scheme of a name
abbrev pub scheme_of : List ℕ → Option Scheme
scheme_of name =
    if bytes_eq name (codes "test") then Some schemes.Test
    else if bytes_eq name (codes "ed25519") then Some schemes.Ed25519
    else None

-- the scheme that is named, and the tests' where nothing is
abbrev pub scheme_at : Option Data → Option Scheme
scheme_at None = Some schemes.Test
scheme_at (Some value) = as_str value >>= scheme_of

-- the scheme by which signatures are judged
unfoldable pub scheme_in : Members → Option Scheme
scheme_in document = scheme_at (get_member (codes "scheme") document)

-- ---- the outputs

-- just one of an address and a key, which is text
abbrev pub one_lock : Option Data → Option Data → Option Lock
one_lock (Some address) None = option_map ByAddress (as_str address)
one_lock None (Some key) = option_map ByKey (as_str key)
one_lock (Some address) (Some key) = None
one_lock None None = None

-- what unlocks the output of a table
unfoldable pub lock_in : Members → Option Lock
lock_in entry = one_lock (get_member (codes "address") entry) (get_member (codes "key") entry)

-- the output of a table, which has no other keys
unfoldable pub entry_in : Members → Option Entry
entry_in entry = do
  known ← guard (has_only entry_keys entry)
  lock ← lock_in entry
  coin ← number_at (codes "coin") entry
  Some (record { lock = lock; coin = coin })

-- an output, which is a table
abbrev pub entry_of : Data → Option Entry
entry_of value = as_table value >>= entry_in

-- the values of an array
abbrev pub values_of : Items → List Data
values_of no_items = []
values_of (item value rest) = value ∷ values_of rest

-- the outputs, which are an array of tables
unfoldable pub outputs_in : Members → Option (List Entry)
outputs_in document = do
  output ← get_member (codes "output") document
  tables ← as_array output
  each entry_of (values_of tables)

-- WHAT A DOCUMENT WRITES
-- The numbers, the scheme and the outputs, where it has their keys and no others, each with a value of its type.
unfoldable pub written_in : Members → Option Written
written_in document = do
  known ← guard (has_only genesis_keys document)
  numbers ← numbers_in document
  scheme ← scheme_in document
  outputs ← outputs_in document
  Some (record { numbers = numbers; scheme = scheme; outputs = outputs })
