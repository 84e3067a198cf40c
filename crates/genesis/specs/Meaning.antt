-- What a text means as a genesis, in words that are not the reader's: which genesis it says, and which faults it has,
-- each by itself (the faults and their numbers are this project's own).
use Rattle.std.specs.Prelude.{◌≡◌, ℕ, ℤ, pos, ◌+ℤ◌, ◌≤ℤ◌, List, [], ◌∷◌, length}
use Rattle.std.specs.Prelude.{Option, Some, None, IfSome, option_map, Result, Ok, Err, codes}
use Rattle.std.specs.List.{AllByRecursion}
use Rattle.hex.specs.Hex.{decode_sized}
use Rattle.toml.specs.Data.{Data, Members, get_member, as_str}
use Rattle.toml.specs.Parse.{parse_document}
use Rattle.model.specs.Transaction.{Address, KeyHash, key_hash_of, address_bytes, IsAddress}
use Rattle.model.specs.Rules.{SecondEra}
use Rattle.model.specs.Limits.{hash_size, greatest_network, greatest_number, k_limit, fee_rate_limit, coin_limit}
use Rattle.model.specs.Limits.{tx_size_limit, body_size_limit, volatile_limit, volatile_bytes_limit, mempool_limit}
use Rattle.model.specs.Limits.{grant_count_limit}
use Rattle.model.specs.Genesis.{Genesis, Grant, IsWithin, IsGenesis}
use Rattle.model.specs.First.{IsFirst}
use Rattle.genesis.specs.declared.genesis_fault.GenesisFault.{GenesisFault}
use Rattle.genesis.specs.declared.genesis_fault.GenesisFault.TheVariants as faults
use Rattle.genesis.specs.declared.scheme.Scheme.{Scheme}
use Rattle.genesis.specs.declared.scheme.Scheme.TheVariants as schemes
use Rattle.genesis.specs.Steps.{Paired}
use Rattle.genesis.specs.Document.{EraNumbers, Numbers, Lock, ByAddress, ByKey, Entry, Written, written_in}

-- the number of a fault, 1 to 6; OutOfMemory is none of the text's faults
abbrev pub number_of : GenesisFault → ℕ
number_of faults.OutOfMemory = 0
number_of faults.NotToml = 1
number_of faults.BadShape = 2
number_of faults.OutOfRange = 3
number_of faults.BadAddress = 4
number_of faults.BadCoin = 5
number_of faults.BadOutputs = 6

-- the number that is told
abbrev pub fault_number : GenesisFault → Option ℕ
fault_number faults.OutOfMemory = None
fault_number fault = Some (number_of fault)

-- the text is a document of the right shape, which writes this
pub record Writes (text : List ℕ) (written : Written) : Type 0 where
  pub document : Members
  pub parsed : parse_document text ≡ Some document
  pub shape : written_in document ≡ Some written

-- ---- what has to hold of what is written

-- a whole number from the first to the second
pub record IsInRange (least most : ℕ) (number : ℤ) : Type 0 where
  pub not_below : pos least ≤ℤ number
  pub not_above : number ≤ℤ pos most

pub record AreOfSecondEra (numbers : EraNumbers) : Type 0 where
  pub first_slot : IsInRange 1 greatest_number numbers.first_slot
  pub per_asset : IsInRange 0 coin_limit numbers.per_asset

pub record AreInRange (numbers : Numbers) : Type 0 where
  pub network : IsInRange 0 greatest_network numbers.network
  pub k : IsInRange 1 k_limit numbers.k
  pub min_fee_a : IsInRange 0 fee_rate_limit numbers.min_fee_a
  pub min_fee_b : IsInRange 0 coin_limit numbers.min_fee_b
  pub min_utxo : IsInRange 0 coin_limit numbers.min_utxo
  pub max_tx_size : IsInRange 1 tx_size_limit numbers.max_tx_size
  pub max_body_size : IsInRange 1 body_size_limit numbers.max_body_size
  pub max_volatile : IsInRange 1 volatile_limit numbers.max_volatile
  pub max_volatile_bytes : IfSome numbers.max_volatile_bytes (IsInRange 1 volatile_bytes_limit)
  pub max_mempool : IsInRange 1 mempool_limit numbers.max_mempool
  pub second_era : IfSome numbers.second_era AreOfSecondEra

-- 66 digits are the address's 33 bytes
pub record IsAddressText (text : List ℕ) (address : Address) : Type 0 where
  pub shape : IsAddress address
  pub digits : decode_sized text 33 ≡ Ok (address_bytes address)

-- 64 digits are a key's 32 bytes, and the key's hash unlocks the address
pub record IsKeyText (text : List ℕ) (address : Address) : Type 0 where
  pub key : List ℕ
  pub digits : decode_sized text hash_size ≡ Ok key
  pub hash : address.payment ≡ KeyHash (key_hash_of key)

abbrev pub IsLockText : Lock → Address → Type 0
IsLockText (ByAddress text) address = IsAddressText text address
IsLockText (ByKey text) address = IsKeyText text address

-- the address that an output names, on the network
pub record IsAddressOf (network : ℤ) (lock : Lock) (address : Address) : Type 0 where
  pub text : IsLockText lock address
  pub on_network : pos address.network ≡ network

-- there is one
abbrev pub HasAddress : ℤ → Entry → Type 0
HasAddress network entry = (address : Address) × IsAddressOf network entry.lock address

-- the sum of all coins
abbrev pub sum_of_coins : List Entry → ℤ
sum_of_coins [] = pos 0
sum_of_coins (entry ∷ entries) = entry.coin +ℤ sum_of_coins entries

-- each output has something, and all together have at most 2^63 - 1
pub record HaveCoins (outputs : List Entry) : Type 0 where
  pub something : AllByRecursion (λ entry. pos 1 ≤ℤ entry.coin) outputs
  pub total : sum_of_coins outputs ≤ℤ pos greatest_number

-- ---- the genesis

-- this is granted by that output
pub record IsGrantOf (network : ℤ) (entry : Entry) (grant : Grant) : Type 0 where
  pub address : IsAddressOf network entry.lock grant.address
  pub coin : entry.coin ≡ pos grant.coin

-- the numbers that write a second era
abbrev pub numbers_of_era : SecondEra → EraNumbers
numbers_of_era era = record { first_slot = pos era.first_slot; per_asset = pos era.per_asset }

-- the genesis has just what is written
pub record IsGenesisOf (written : Written) (genesis : Genesis) : Type 0 where
  pub network : written.numbers.network ≡ pos genesis.params.network
  pub k : written.numbers.k ≡ pos genesis.k
  pub min_fee_a : written.numbers.min_fee_a ≡ pos genesis.params.min_fee_a
  pub min_fee_b : written.numbers.min_fee_b ≡ pos genesis.params.min_fee_b
  pub min_utxo : written.numbers.min_utxo ≡ pos genesis.params.min_utxo
  pub max_tx_size : written.numbers.max_tx_size ≡ pos genesis.params.max_tx_size
  pub max_body_size : written.numbers.max_body_size ≡ pos genesis.params.max_body_size
  pub max_volatile : written.numbers.max_volatile ≡ pos genesis.max_volatile
  pub max_volatile_bytes : written.numbers.max_volatile_bytes ≡ option_map (λ n. pos n) genesis.max_volatile_bytes
  pub max_mempool : written.numbers.max_mempool ≡ pos genesis.max_mempool
  pub second_era : written.numbers.second_era ≡ option_map numbers_of_era genesis.params.second_era
  -- one grant for each output, in the same order
  pub grants : Paired (IsGrantOf written.numbers.network) written.outputs genesis.grants

-- the text says a genesis, and this one
pub record Says (text : List ℕ) (genesis : Genesis) : Type 0 where
  pub written : Written
  pub writes : Writes text written
  pub means : IsGenesisOf written genesis
  pub whole : IsGenesis genesis

-- ---- the scheme

-- the one name of each scheme
abbrev pub scheme_name : Scheme → List ℕ
scheme_name schemes.Test = codes "test"
scheme_name schemes.Ed25519 = codes "ed25519"

-- its name is the text that stands there; where nothing stands there, it is the tests' scheme
abbrev pub IsSchemeAt : Option Data → Scheme → Type 0
IsSchemeAt None scheme = scheme ≡ schemes.Test
IsSchemeAt (Some value) scheme = as_str value ≡ Some (scheme_name scheme)

-- the text is a document, and signatures are judged by this scheme: the one that its key `scheme` names, or the tests'
-- where it has none
pub record NamesScheme (text : List ℕ) (scheme : Scheme) : Type 0 where
  pub document : Members
  pub parsed : parse_document text ≡ Some document
  pub named : IsSchemeAt (get_member (codes "scheme") document) scheme

-- ---- the faults

-- what is written lacks something
abbrev pub WritesWithout : List ℕ → (Written → Type 0) → Type 0
WritesWithout text Has = (written : Written) × Writes text written × (Has written → ⊥)

-- the fault is one of the text's, whatever its other faults are
abbrev pub Applies : List ℕ → GenesisFault → Type 0
Applies text faults.NotToml = (document : Members) → parse_document text ≡ Some document → ⊥
Applies text faults.BadShape =
    (document : Members) × (parse_document text ≡ Some document) × ((written : Written) → Writes text written → ⊥)
Applies text faults.OutOfRange = WritesWithout text (λ written. AreInRange written.numbers)
Applies text faults.BadAddress =
    WritesWithout text (λ written. AllByRecursion (HasAddress written.numbers.network) written.outputs)
Applies text faults.BadCoin = WritesWithout text (λ written. HaveCoins written.outputs)
Applies text faults.BadOutputs = WritesWithout text (λ written. IsWithin 1 grant_count_limit (length written.outputs))
Applies text faults.OutOfMemory = ⊥

-- it applies, and none of a lesser number does
abbrev pub IsLeastFault : List ℕ → GenesisFault → Type 0
IsLeastFault text fault = IsFirst number_of (Applies text) fault

-- a fault is the least of the text's; OutOfMemory says nothing
abbrev pub IsToldFault : List ℕ → GenesisFault → Type 0
IsToldFault text faults.OutOfMemory = Unit {0}
IsToldFault text fault = IsLeastFault text fault

-- THE ANSWER FOR A TEXT
-- The genesis that it says, where no fault applies; or else the least fault that does.
pub record IsSaid (text : List ℕ) (genesis : Genesis) : Type 0 where
  pub says : Says text genesis
  pub faultless : (fault : GenesisFault) → Applies text fault → ⊥

abbrev pub IsAnswer : List ℕ → Result Genesis GenesisFault → Type 0
IsAnswer text (Ok genesis) = IsSaid text genesis
IsAnswer text (Err fault) = IsToldFault text fault
