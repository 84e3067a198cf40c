-- THE TEXT OF A LEDGER'S STATE (this project's own): where a chain ends, the fees, the digest of what its network
-- agrees on and the unspent outputs, as deterministic CBOR (RFC 8949, 4.2.1) in parts of at most 1 MiB. The first part
-- is one array, which also says how many outputs there are. Each part after it is a sequence (RFC 8742) of the outputs
-- with their inputs, in the order of the inputs, as many as it has room for. So a state has no more than one list of
-- parts.
use Rattle.std.specs.Prelude.{◌≡◌, ◌≢◌, ℕ, ◌+◌, ◌≤◌, ◌<◌, List, [], ◌∷◌, ◌++◌, length, Option, Some, None}
use Rattle.std.specs.List.{AllByRecursion}
use Rattle.std.specs.FinMap as finite
use Rattle.model.specs.Limits.{hash_size, number_limit}
use Rattle.model.specs.Cbor.{Item, Unsigned, Bytes, array_of, text_of, HasText, Spells}
use Rattle.model.specs.Block.{item_of_previous}
use Rattle.model.specs.Chain.{Tip}
use Rattle.model.specs.Transaction.{Input, Output, item_of_input, item_of_output, IsInput, IsOutput}
use Rattle.model.specs.Utxo.{Utxo, outputs_of, coin_of}

-- how many bytes a part has at most
abbrev pub part_limit : ℕ
part_limit = 1048576

-- where the chain ends, the fees so far, the digest of what its network agrees on, 32 bytes, and what is unspent
pub record Snapshot : Type 0 where
  pub tip : Tip
  pub fees : ℕ
  pub digest : List ℕ
  pub utxo : Utxo

-- ---- the first part

-- what it says: all but the outputs, and how many these are
pub record Front : Type 0 where
  pub tip : Tip
  pub fees : ℕ
  pub digest : List ℕ
  pub count : ℕ

abbrev pub front_of : Snapshot → Front
front_of s = record { tip = s.tip; fees = s.fees; digest = s.digest; count = finite.len s.utxo }

-- an array of the number, the slot and the hash of the last block, which is null for genesis
abbrev pub item_of_tip : Tip → Item
item_of_tip tip = array_of (Unsigned tip.number ∷ Unsigned tip.slot ∷ item_of_previous tip.hash ∷ [])

-- an array of where the chain ends, the fees, the digest and how many outputs follow
abbrev pub item_of_front : Front → Item
item_of_front h = array_of (item_of_tip h.tip ∷ Unsigned h.fees ∷ Bytes h.digest ∷ Unsigned h.count ∷ [])

-- Where a chain may end, and what fees it may have there. Before the first block these are 0 each. Each block has the
-- next number, and a later slot than the one before it, so that no slot is below its block's number.
abbrev pub IsReached : (number slot fees : ℕ) → (hash : Option (List ℕ)) → Type 0
IsReached number slot fees None = (number ≡ 0) × (slot ≡ 0) × (fees ≡ 0)
IsReached number slot fees (Some hash) =
    (0 < number) × (number ≤ slot) × (slot < number_limit) × (length hash ≡ hash_size)

pub record IsFront (h : Front) : Type 0 where
  pub reached : IsReached h.tip.number h.tip.slot h.fees h.tip.hash
  pub digest : length h.digest ≡ hash_size

-- ---- the other parts

-- an array of an input and the output that it would spend
abbrev pub item_of_pair : Input × Output → Item
item_of_pair pair = array_of (item_of_input pair.0 ∷ item_of_output pair.1 ∷ [])

unfoldable pub pair_text : Input × Output → List ℕ
pair_text pair = text_of (item_of_pair pair)

-- the texts of pairs, one after the other
abbrev pub texts_of : List (Input × Output) → List ℕ
texts_of [] = []
texts_of (pair ∷ pairs) = pair_text pair ++ texts_of pairs

-- lengths and ranges of their members; how large a number may be is said by the item
pub record IsPair (pair : Input × Output) : Type 0 where
  pub input : IsInput pair.0
  pub output : IsOutput pair.1
  pub has_text : HasText (item_of_pair pair)

-- a part of this size has no room for the first of these
abbrev pub HasNoRoom : (size : ℕ) → List (Input × Output) → Type 0
HasNoRoom size [] = Unit {0}
HasNoRoom size (pair ∷ pairs) = part_limit < size + length (pair_text pair)

-- the part has the first of these outputs, as many as it has room for, and these come after them
pub record IsPart (pairs : List (Input × Output)) (part : List ℕ) (later : List (Input × Output)) : Type 0 where
  pub here : List (Input × Output)
  pub some : here ≢ []
  pub split : pairs ≡ here ++ later
  pub each : AllByRecursion IsPair here
  pub text : part ≡ texts_of here
  pub within : length part ≤ part_limit
  pub full : HasNoRoom (length part) later

-- the parts have these outputs, all of them
abbrev pub AreParts : List (Input × Output) → (parts : List (List ℕ)) → Type 0
AreParts pairs [] = pairs ≡ []
AreParts pairs (part ∷ parts) = (later : List (Input × Output)) × IsPart pairs part later × AreParts later parts

-- ---- the whole

-- the first part is the text of this, and the others have these outputs
abbrev pub AreWhole : Front → List (Input × Output) → (parts : List (List ℕ)) → Type 0
AreWhole h pairs [] = ⊥
AreWhole h pairs (first ∷ others) = Spells (item_of_front h) first × AreParts pairs others

-- the parts are the one text of the state
pub record SpellsSnapshot (s : Snapshot) (parts : List (List ℕ)) : Type 0 where
  pub shape : IsFront (front_of s)
  pub text : AreWhole (front_of s) (finite.entries s.utxo) parts

-- The lovelace that there is, in the unspent outputs and the fees, is this much. No transaction makes or takes any, so
-- that in each state of a chain it is what the genesis granted.
abbrev pub HoldsSupply : (supply : ℕ) → Snapshot → Type 0
HoldsSupply supply s = coin_of (outputs_of s.utxo) + s.fees ≡ supply
