-- Which key of a genesis document a fault of it is about (the order in which they are looked at is this project's own).
use Rattle.std.specs.Prelude.{◌≡◌, ℕ, ◌+◌, nat_le, ℤ, if◌then◌else◌, List, [], ◌∷◌, take, length, Option, Some, None}
use Rattle.std.specs.Prelude.{Result, Ok, Err, option_map, codes}
use Rattle.toml.specs.Data.{Data, Items, Members, no_members, member, get_member}
use Rattle.toml.specs.Data.{as_integer, as_str, as_array, as_table}
use Rattle.model.specs.Limits.{greatest_network, greatest_number, k_limit, fee_rate_limit, coin_limit}
use Rattle.model.specs.Limits.{tx_size_limit, body_size_limit, volatile_limit, volatile_bytes_limit, mempool_limit}
use Rattle.model.specs.Limits.{grant_count_limit}
use Rattle.model.specs.Genesis.{Genesis}
use Rattle.genesis.specs.declared.genesis_fault.GenesisFault.{GenesisFault}
use Rattle.genesis.specs.declared.genesis_fault.GenesisFault.TheVariants as faults
use Rattle.genesis.specs.Steps.{◌>>=◌, or_fault}
use Rattle.genesis.specs.Document.{EraNumbers, Numbers, Lock, ByAddress, ByKey, Entry, Written, written_in}
use Rattle.genesis.specs.Document.{is_known, genesis_keys, scheme_of, entry_keys, values_of}
use Rattle.genesis.specs.Judgement.{within, placed_of, judged}
use Rattle.hints.specs.declared.genesis_spot.Trouble.{Trouble}
use Rattle.hints.specs.declared.genesis_spot.Trouble.TheVariants.{Unknown, Missing, Alone, NotNumber, NotText}
use Rattle.hints.specs.declared.genesis_spot.Trouble.TheVariants.{NotArray, NotTable, BothLocks, NoLock, OutOfRange}
use Rattle.hints.specs.declared.genesis_spot.Trouble.TheVariants.{NoAddress, NoKey, NoCoin, TooMuch}
use Rattle.hints.specs.declared.genesis_spot.Trouble.TheVariants.{NoOutputs, TooMany, NoScheme}

-- a key, of the document itself or of one of its outputs, which are counted from 0, and what is wrong there
pub record Spot : Type 0 where
  pub output : Option ℕ
  pub key : List ℕ
  pub trouble : Trouble

abbrev pub in_document : List ℕ → Trouble → Spot
in_document key trouble = record { output = None; key = key; trouble = trouble }

abbrev pub in_output : ℕ → List ℕ → Trouble → Spot
in_output n key trouble = record { output = Some n; key = key; trouble = trouble }

infixr 5 ◌or◌
-- the first of two, or else the second
abbrev pub ◌or◌ : {A : Type 0} → Option A → Option A → Option A
(Some x) or other = Some x
None or other = other

-- this, where nothing was found
abbrev pub unless : {A B : Type 0} → Option A → B → Option B
unless None b = Some b
unless (Some a) b = None

-- the first thing that is found for an element, which are counted
abbrev pub first_found : {A B : Type 0} → (ℕ → A → Option B) → ℕ → List A → Option B
first_found f n [] = None
first_found f n (x ∷ xs) = f n x or first_found f (n + 1) xs

-- ---- keys

-- the first key of a table that is none of these
abbrev pub unknown_in : List (List ℕ) → Members → Option (List ℕ)
unknown_in known no_members = None
unknown_in known (member key value rest) = if is_known known key then unknown_in known rest else Some key

-- what is wrong where a whole number has to stand
abbrev pub number_trouble : Option Data → Option Trouble
number_trouble None = Some Missing
number_trouble (Some value) = unless (as_integer value) NotNumber

-- ---- a document of another shape

-- no whole number stands at the key
abbrev pub number_spot : List ℕ → Members → Option Spot
number_spot key document = option_map (in_document key) (number_trouble (get_member key document))

-- at the first of these keys
abbrev pub lacking : List (List ℕ) → Members → Option Spot
lacking keys document = first_found (λ n key. number_spot key document) 0 keys

-- something else than a whole number stands at a key that may be missing
abbrev pub optional_spot : List ℕ → Option Data → Option Spot
optional_spot key None = None
optional_spot key (Some value) = unless (as_integer value) (in_document key NotNumber)

-- both numbers of a second era have to stand there, or neither
abbrev pub era_spot : Option Data → Option Data → Option Spot
era_spot None None = None
era_spot (Some slot) None = Some (in_document (codes "era2_slot") Alone)
era_spot None (Some coin) = Some (in_document (codes "per_asset") Alone)
era_spot (Some slot) (Some coin) =
    unless (as_integer slot) (in_document (codes "era2_slot") NotNumber)
    or unless (as_integer coin) (in_document (codes "per_asset") NotNumber)

-- the scheme may be missing, and is a text, which is the name of one
abbrev pub scheme_name_spot : Option (List ℕ) → Option Spot
scheme_name_spot None = Some (in_document (codes "scheme") NotText)
scheme_name_spot (Some name) = unless (scheme_of name) (in_document (codes "scheme") NoScheme)

abbrev pub scheme_spot : Option Data → Option Spot
scheme_spot None = None
scheme_spot (Some value) = scheme_name_spot (as_str value)

-- there isn't just one of an address and a key, or it is no text
abbrev pub lock_spot : ℕ → Option Data → Option Data → Option Spot
lock_spot n None None = Some (in_output n (codes "address") NoLock)
lock_spot n (Some address) (Some key) = Some (in_output n (codes "address") BothLocks)
lock_spot n (Some address) None = unless (as_str address) (in_output n (codes "address") NotText)
lock_spot n None (Some key) = unless (as_str key) (in_output n (codes "key") NotText)

-- an output of another shape: a key that no output has, its address or key, its coin
unfoldable pub table_spot : ℕ → Members → Option Spot
table_spot n entry =
    option_map (λ key. in_output n key Unknown) (unknown_in entry_keys entry)
    or lock_spot n (get_member (codes "address") entry) (get_member (codes "key") entry)
    or option_map (in_output n (codes "coin")) (number_trouble (get_member (codes "coin") entry))

abbrev pub element_spot : ℕ → Option Members → Option Spot
element_spot n None = Some (in_document (codes "output") (NotTable n))
element_spot n (Some entry) = table_spot n entry

abbrev pub entry_spot : ℕ → Data → Option Spot
entry_spot n value = element_spot n (as_table value)

abbrev pub array_spot : Option Items → Option Spot
array_spot None = Some (in_document (codes "output") NotArray)
array_spot (Some tables) = first_found entry_spot 0 (values_of tables)

abbrev pub outputs_spot : Option Data → Option Spot
outputs_spot None = Some (in_document (codes "output") Missing)
outputs_spot (Some value) = array_spot (as_array value)

-- A DOCUMENT OF ANOTHER SHAPE
-- A key that no genesis has, the first in the order of the alphabet; a number that is missing, in the order of
-- `genesis_keys`; a scheme that there isn't; or the first output that is none.
unfoldable pub shape_spot : Members → Option Spot
shape_spot document =
    option_map (λ key. in_document key Unknown) (unknown_in genesis_keys document)
    or lacking (take 9 genesis_keys) document
    or optional_spot (codes "max_volatile_bytes") (get_member (codes "max_volatile_bytes") document)
    or era_spot (get_member (codes "era2_slot") document) (get_member (codes "per_asset") document)
    or scheme_spot (get_member (codes "scheme") document)
    or outputs_spot (get_member (codes "output") document)

-- ---- a document of the right shape

-- a number that is written, its key, and its range
pub record Bounded : Type 0 where
  pub key : List ℕ
  pub least : ℕ
  pub most : ℕ
  pub number : ℤ

abbrev pub bounded : List ℕ → (least most : ℕ) → ℤ → Bounded
bounded key least most number = record { key = key; least = least; most = most; number = number }

abbrev pub bytes_bounds : Option ℤ → List Bounded
bytes_bounds None = []
bytes_bounds (Some number) = bounded (codes "max_volatile_bytes") 1 volatile_bytes_limit number ∷ []

abbrev pub era_bounds : Option EraNumbers → List Bounded
era_bounds None = []
era_bounds (Some era) =
    bounded (codes "era2_slot") 1 greatest_number era.first_slot
    ∷ bounded (codes "per_asset") 0 coin_limit era.per_asset
    ∷ []

abbrev pub number_bounds : Numbers → List Bounded
number_bounds numbers =
    bounded (codes "network") 0 greatest_network numbers.network
    ∷ bounded (codes "k") 1 k_limit numbers.k
    ∷ bounded (codes "min_fee_a") 0 fee_rate_limit numbers.min_fee_a
    ∷ bounded (codes "min_fee_b") 0 coin_limit numbers.min_fee_b
    ∷ bounded (codes "min_utxo") 0 coin_limit numbers.min_utxo
    ∷ bounded (codes "max_tx_size") 1 tx_size_limit numbers.max_tx_size
    ∷ bounded (codes "max_body_size") 1 body_size_limit numbers.max_body_size
    ∷ bounded (codes "max_volatile") 1 volatile_limit numbers.max_volatile
    ∷ bounded (codes "max_mempool") 1 mempool_limit numbers.max_mempool
    ∷ []

-- one that is out of its range, and the first of them
abbrev pub bound_spot : Bounded → Option Spot
bound_spot b = unless (within b.least b.most b.number) (in_document b.key (OutOfRange b.least b.most))

abbrev pub range_spot : List Bounded → Option Spot
range_spot bounds = first_found (λ n b. bound_spot b) 0 bounds

-- what is wrong with what unlocks an output, where it names no address
abbrev pub homeless_spot : ℕ → Lock → Spot
homeless_spot n (ByAddress text) = in_output n (codes "address") NoAddress
homeless_spot n (ByKey text) = in_output n (codes "key") NoKey

-- an output that names no address on the network
abbrev pub address_spot : (network : ℕ) → ℕ → Entry → Option Spot
address_spot network n entry = unless (placed_of network entry) (homeless_spot n entry.lock)

-- the first of them, on a network that there is
abbrev pub addresses_spot : ℤ → List Entry → Option Spot
addresses_spot network outputs = within 0 greatest_network network >>= λ n. first_found (address_spot n) 0 outputs

-- the first output that has nothing, or with which those up to it have too much
abbrev pub or_zero : Option ℕ → ℕ
or_zero None = 0
or_zero (Some n) = n

-- what is wrong with a coin, after a sum
abbrev pub coin_trouble : (sum : ℕ) → Option ℕ → Option Trouble
coin_trouble sum None = Some NoCoin
coin_trouble sum (Some coin) = if nat_le (sum + coin) greatest_number then None else Some TooMuch

abbrev pub coin_spot : (sum : ℕ) → ℕ → List Entry → Option Spot
coin_spot sum n [] = None
coin_spot sum n (entry ∷ entries) =
    option_map (in_output n (codes "coin")) (coin_trouble sum (within 1 greatest_number entry.coin))
    or coin_spot (sum + or_zero (within 1 greatest_number entry.coin)) (n + 1) entries

-- too few outputs, or too many
abbrev pub count_spot : ℕ → Option Spot
count_spot n =
    if nat_le n 0 then Some (in_document (codes "output") NoOutputs)
    else if nat_le n grant_count_limit then None
    else Some (in_document (codes "output") TooMany)

-- A DOCUMENT OF THE RIGHT SHAPE
-- The first number that is out of its range; the first output that names no address; the first with which the coins
-- are wrong; or the outputs, where that is how many there are.
unfoldable pub written_spot : Written → Option Spot
written_spot written =
    range_spot (number_bounds written.numbers)
    or range_spot (bytes_bounds written.numbers.max_volatile_bytes)
    or range_spot (era_bounds written.numbers.second_era)
    or addresses_spot written.numbers.network written.outputs
    or coin_spot 0 0 written.outputs
    or count_spot (length written.outputs)

-- WHAT THE FAULT OF A DOCUMENT IS ABOUT
unfoldable pub document_spot : Members → Option Spot
document_spot document = shape_spot document or (written_in document >>= written_spot)

-- the fault of a document in which this is wrong
abbrev pub fault_of : Trouble → GenesisFault
fault_of (OutOfRange least most) = faults.OutOfRange
fault_of NoAddress = faults.BadAddress
fault_of NoKey = faults.BadAddress
fault_of NoCoin = faults.BadCoin
fault_of TooMuch = faults.BadCoin
fault_of NoOutputs = faults.BadOutputs
fault_of TooMany = faults.BadOutputs
fault_of other = faults.BadShape

-- the genesis that a document is, or its fault
abbrev pub fault_or_genesis : Members → Result Genesis GenesisFault
fault_or_genesis document = or_fault faults.BadShape (written_in document) judged

-- something is told just where there is a fault, and what is told is of that fault
abbrev pub TellsOf : Result Genesis GenesisFault → Option Spot → Type 0
TellsOf (Ok genesis) None = Unit {0}
TellsOf (Ok genesis) (Some spot) = ⊥
TellsOf (Err fault) None = ⊥
TellsOf (Err fault) (Some spot) = fault_of spot.trouble ≡ fault
