-- Transactions of the Shelley-MA era, with the two kinds of enterprise address alone.
use Rattle.std.specs.Prelude.{◌≡◌, ℕ, ◌+◌, ◌≤◌, ◌<◌, List, [], ◌∷◌, ◌++◌, length, map, Option, Some, None}
use Rattle.std.specs.List.{AllByRecursion}
use Rattle.std.specs.List.Sorted.{IsStrictlySortedBy}
use Rattle.std.specs.Ordering.{nat_cmp, ordering_then}
use Rattle.std.specs.declared.cmp.Ordering.{Ordering}
use Rattle.std.specs.Cmp.Lexicographic.{slice_cmp}
use Rattle.sha2.specs.Sha256.{sha256}
use Rattle.model.specs.Limits.{hash_size, signature_size, network_limit, output_limit, greatest_index}
use Rattle.model.specs.Cbor.{Item, Unsigned, Bytes, Null, array_of, map_of, text_of, Spells}
use Rattle.model.specs.Value.{Value, Mint, item_of_value, item_of_assets, item_of_number, IsValue, IsMint}
use Rattle.model.specs.Script.{Script, Interval, item_of_script, IsScript, script_hash_of}

-- what unlocks an output: a signature by the key of this hash, or the script of this hash
pub data Credential : Type 0 where
  KeyHash : List ℕ → Credential
  ScriptHash : List ℕ → Credential

-- an enterprise address (Shelley, 4.2 and the address formats)
pub record Address : Type 0 where
  pub network : ℕ
  pub payment : Credential

-- one output of an earlier transaction
pub record Input : Type 0 where
  pub transaction : List ℕ
  pub index : ℕ

pub record Output : Type 0 where
  pub address : Address
  pub value : Value

-- a signature of the transaction's identifier, with the key that made it
pub record KeyWitness : Type 0 where
  pub key : List ℕ
  pub signature : List ℕ

-- a transaction holds from slot `start` on, where one is given, and before slot `end`
pub record Transaction : Type 0 where
  pub inputs : List Input
  pub outputs : List Output
  pub fee : ℕ
  pub end : Option ℕ
  pub start : Option ℕ
  pub mint : Mint
  pub signatures : List KeyWitness
  pub scripts : List Script

-- the slots in which a transaction holds
abbrev pub interval_of_transaction : Transaction → Interval
interval_of_transaction t = record { start = t.start; end = t.end }

-- the 33 bytes of an address: the kind in the high four bits of the first, the network in the low four
abbrev pub payment_bytes : ℕ → Credential → List ℕ
payment_bytes network (KeyHash hash) = (96 + network) ∷ hash
payment_bytes network (ScriptHash hash) = (112 + network) ∷ hash

abbrev pub address_bytes : Address → List ℕ
address_bytes address = payment_bytes address.network address.payment

abbrev pub item_of_input : Input → Item
item_of_input input = array_of (Bytes input.transaction ∷ Unsigned input.index ∷ [])

abbrev pub item_of_output : Output → Item
item_of_output output = array_of (Bytes (address_bytes output.address) ∷ item_of_value output.value ∷ [])

abbrev pub item_of_witness : KeyWitness → Item
item_of_witness witness = array_of (Bytes witness.key ∷ Bytes witness.signature ∷ [])

-- an entry that may be left out
abbrev pub optional_entry : ℕ → Option ℕ → List (Item × Item)
optional_entry key None = []
optional_entry key (Some n) = (Unsigned key, Unsigned n) ∷ []

-- an entry that is left out where its list is empty
abbrev pub unless_empty : {X : Type 0} → ℕ → (List X → Item) → List X → List (Item × Item)
unless_empty key item_of [] = []
unless_empty key item_of (x ∷ xs) = (Unsigned key, item_of (x ∷ xs)) ∷ []

-- the body: 0 inputs, 1 outputs, 2 fee, 3 end, 8 start, 9 mint
abbrev pub item_of_body : Transaction → Item
item_of_body t = map_of (
    (Unsigned 0, array_of (map item_of_input t.inputs))
    ∷ (Unsigned 1, array_of (map item_of_output t.outputs))
    ∷ (Unsigned 2, Unsigned t.fee)
    ∷ (optional_entry 3 t.end ++ (optional_entry 8 t.start ++ unless_empty 9 (item_of_assets item_of_number) t.mint)))

-- the witness set: 0 signatures, 1 scripts
abbrev pub item_of_witnesses : Transaction → Item
item_of_witnesses t = map_of (
    unless_empty 0 (λ witnesses. array_of (map item_of_witness witnesses)) t.signatures
    ++ unless_empty 1 (λ scripts. array_of (map item_of_script scripts)) t.scripts)

abbrev pub item_of_transaction : Transaction → Item
item_of_transaction t = array_of (item_of_body t ∷ item_of_witnesses t ∷ Null ∷ [])

abbrev pub payment_hash : Credential → List ℕ
payment_hash (KeyHash hash) = hash
payment_hash (ScriptHash hash) = hash

pub record IsAddress (address : Address) : Type 0 where
  pub network : address.network < network_limit
  pub hash : length (payment_hash address.payment) ≡ hash_size

pub record IsInput (input : Input) : Type 0 where
  pub transaction : length input.transaction ≡ hash_size
  pub index : input.index ≤ greatest_index

pub record IsOutput (output : Output) : Type 0 where
  pub address : IsAddress output.address
  pub value : IsValue output.value

pub record IsKeyWitness (witness : KeyWitness) : Type 0 where
  pub key : length witness.key ≡ hash_size
  pub signature : length witness.signature ≡ signature_size

-- by the bytes of the transaction's identifier, then by the index
abbrev pub input_cmp : Input → Input → Ordering
input_cmp a b = ordering_then (slice_cmp nat_cmp a.transaction b.transaction) (nat_cmp a.index b.index)

abbrev pub witness_cmp : KeyWitness → KeyWitness → Ordering
witness_cmp a b = slice_cmp nat_cmp a.key b.key

abbrev pub script_cmp : Script → Script → Ordering
script_cmp a b = slice_cmp nat_cmp (script_hash_of a) (script_hash_of b)

-- Lengths and ranges of the parts. Inputs, signatures and scripts rise strictly, so that each set has
-- one order (this project's own); how large a number may be is said by the item where it isn't here.
pub record IsTransaction (t : Transaction) : Type 0 where
  pub inputs : AllByRecursion IsInput t.inputs
  pub inputs_rise : IsStrictlySortedBy input_cmp t.inputs
  pub outputs : AllByRecursion IsOutput t.outputs
  pub outputs_count : length t.outputs ≤ output_limit
  pub mint : IsMint t.mint
  pub signatures : AllByRecursion IsKeyWitness t.signatures
  pub signatures_rise : IsStrictlySortedBy witness_cmp t.signatures
  pub scripts : AllByRecursion IsScript t.scripts
  pub scripts_rise : IsStrictlySortedBy script_cmp t.scripts

-- the bytes are the one text of the transaction
pub record SpellsTransaction (t : Transaction) (bytes : List ℕ) : Type 0 where
  pub shape : IsTransaction t
  pub text : Spells (item_of_transaction t) bytes

-- the size of a transaction, in bytes
unfoldable pub size_of : Transaction → ℕ
size_of t = length (text_of (item_of_transaction t))

-- the identifier of a transaction, which is also what its keys sign: SHA-256 of its body's text
unfoldable pub transaction_id_of : Transaction → List ℕ
transaction_id_of t = sha256 (text_of (item_of_body t))

-- the hash of a key: SHA-256 of its 32 bytes
unfoldable pub key_hash_of : List ℕ → List ℕ
key_hash_of key = sha256 key
