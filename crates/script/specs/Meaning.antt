-- What a line means where some names are bound: what it does, or the first of its faults.
use Rattle.std.specs.Prelude.{◌≡◌, ℕ, ◌+◌, ◌-◌, ◌&&◌, Bool, true, false, IsTrue, List, [], ◌∷◌, ◌++◌, length}
use Rattle.std.specs.Prelude.{take, replicate}
use Rattle.std.specs.Prelude.{Option, Some, None, option_map, option_and_then, Result, Ok, Err, is_some, nat_lt, nat_le}
use Rattle.std.specs.Prelude.{if◌then◌else◌}
use Rattle.std.specs.List.{list_all}
use Rattle.model.specs.Limits.{transaction_nesting_limit, hash_size, output_limit, number_limit}
use Rattle.model.specs.Cbor.{nesting}
use Rattle.model.specs.Script.{Script, SpellsScript, script_hash_of}
use Rattle.model.specs.Transaction.{Address, Credential, KeyHash, ScriptHash, Transaction, SpellsTransaction}
use Rattle.model.specs.Transaction.{item_of_transaction}
use Rattle.model.specs.Transaction.{key_hash_of, transaction_id_of}
use Rattle.model.specs.Block.{Block, block_text, block_hash_of, body_hash_of}
use Rattle.model.specs.Chain.{Point}
use Rattle.value.specs.Parts.{AssetQuantity}
use Rattle.draft.specs.Draft.{Draft, empty_draft, with_input, with_output, with_fee, with_start, with_end, with_minted}
use Rattle.draft.specs.Draft.{with_signer, with_script, IsTxOfDraft}
use Rattle.script.specs.declared.fault.LineFault.{LineFault}
use Rattle.script.specs.declared.fault.LineFault.TheVariants.{BadLine, UnknownName, NameTaken, NotBuilt}
use Rattle.script.specs.declared.line.Form.{Form}
use Rattle.script.specs.declared.line.Form.TheVariants.{Whole, Cut, Extended}
use Rattle.script.specs.Text.{script_size_limit}
use Rattle.script.specs.Line.{NamedPlace, Genesis, AtBlock, Owner, OwnedByKey, OwnedByScript, NamedAsset, Part}
use Rattle.script.specs.Line.{SpendGrant, Spend, Pay}
use Rattle.script.specs.Line.{SetFee, SetStart, SetEnd, MintAsset, SignBy, Supply, Line, Nothing, DefineKey}
use Rattle.script.specs.Line.{DefineSeed, DefineScript, BeginTx}
use Rattle.script.specs.Line.{AddPart, EndTx, DefineBlock, DefineRaw, Arrive, SubmitTx, ForgeBlock, OpenFollower, WatchKeys}
use Rattle.script.specs.Line.{AskNext, AskForward, CloseFollower, DiscardBlock, AskTip, AskMempool, AskUtxo, AskWhy}
use Rattle.script.specs.Line.{AskWhere, AskBalance}
use Rattle.script.specs.Line.{parse_line, is_quantity}
use Rattle.script.specs.Keys.{Key, key_bytes, key_in, secret_key_in, signer_with}
use Rattle.script.specs.Names.{Named, Bound, Binding, OpenTx, AllNames, bound_to}

-- what a line defines: nothing, bytes, a key or a script of a name; a transaction is begun or goes on, or it ends and
-- its name is bound
pub data Definition : Type 0 where
  NoDefinition : Definition
  BindsBytes : Binding → Definition
  BindsKey : Named Key → Definition
  BindsScript : Named Script → Definition
  Continues : OpenTx → Definition
  Finishes : OpenTx → Definition

-- what a line does: it defines something, bytes arrive, a transaction is submitted, a block of a name is forged in a
-- slot, a follower is opened, or is opened with an index of what these keys have, the follower of a number is told what
-- comes next, is set to the first of some points that is on the selected chain, or is closed, the block of a hash is to
-- be kept no more, the tip is printed, what waits in the mempool, what is unspent, why the block of a hash isn't
-- selected, where the transaction of an identifier stands, or how much is unspent at an owner's address
pub data Meaning : Type 0 where
  Defines : Definition → Meaning
  Arrives : Form → (name bytes : List ℕ) → Meaning
  SubmitsTx : (name : List ℕ) → Transaction → Meaning
  ForgesBlock : (name : List ℕ) → (slot : ℕ) → Meaning
  OpensFollower : (name : List ℕ) → Meaning
  WatchesKeys : (name : List ℕ) → (keys : List (Named Address)) → Meaning
  TellsFollower : (name : List ℕ) → (id : ℕ) → Meaning
  ForwardsFollower : (name : List ℕ) → (id : ℕ) → (points : List Point) → Meaning
  ClosesFollower : (name : List ℕ) → (id : ℕ) → Meaning
  DiscardsBlock : (name hash : List ℕ) → Meaning
  PrintsTip : Meaning
  PrintsMempool : Meaning
  PrintsUtxo : Meaning
  PrintsWhy : (name hash : List ℕ) → Meaning
  PrintsWhere : (name id : List ℕ) → Meaning
  PrintsBalance : Owner → Address → Meaning

-- the bytes that arrive: all, all but the last, or all and a zero
abbrev pub formed : Form → List ℕ → List ℕ
formed Whole bytes = bytes
formed Cut bytes = take (length bytes - 1) bytes
formed Extended bytes = bytes ++ 0 ∷ []

-- ---- faults in their order

-- what is made of something that is known
abbrev pub where_known : {A X : Type 0} → Option A → (A → Result X LineFault) → Result X LineFault
where_known None make = Err UnknownName
where_known (Some a) make = make a

-- what is made where the name to bind is free
abbrev pub where_free : {A X : Type 0} → Option A → Result X LineFault → Result X LineFault
where_free found made = if is_some found then Err NameTaken else made

-- what is made, if it is
abbrev pub where_built : {X : Type 0} → Option X → Result X LineFault
where_built None = Err NotBuilt
where_built (Some x) = Ok x

-- what a thing that is made means
abbrev pub meaning_by : {X : Type 0} → (X → Meaning) → Result X LineFault → Result Meaning LineFault
meaning_by mean (Ok x) = Ok (mean x)
meaning_by mean (Err fault) = Err fault

-- one more, where it and all others are known
abbrev pub with_one : {X : Type 0} → Option X → Option (List X) → Option (List X)
with_one None others = None
with_one (Some x) None = None
with_one (Some x) (Some others) = Some (x ∷ others)

-- ---- keys

-- a key that there is gets the name
abbrev pub built_key : (name : List ℕ) → Option Key → Result Meaning LineFault
built_key name key = where_built (option_map (λ k. Defines (BindsKey (record { name = name; bound = k }))) key)

-- ---- parts of a transaction

-- an input, whose index has 16 bits
abbrev pub spends : (id : List ℕ) → (index : ℕ) → Draft → Result Draft LineFault
spends id index d =
    if nat_lt index output_limit then where_built (with_input (record { transaction = id; index = index }) d)
    else Err NotBuilt

module _ (names : AllNames) where
  -- what unlocks the outputs of an owner
  abbrev pub payment_of : Owner → Option Credential
  payment_of (OwnedByKey name) = option_map (λ key. KeyHash (key_hash_of (key_bytes key))) (bound_to name names.of_keys)
  payment_of (OwnedByScript name) =
      option_map (λ script. ScriptHash (script_hash_of script)) (bound_to name names.of_scripts)

  -- the address of an owner
  abbrev pub address_on : Owner → Option Address
  address_on owner = option_map (λ payment. record { network = names.network; payment = payment }) (payment_of owner)

  -- a key by its name, with its address
  abbrev pub key_address : (name : List ℕ) → Option (Named Address)
  key_address name =
      option_map (λ address. record { name = name; bound = address }) (address_on (OwnedByKey name))

  -- the keys of these names with their addresses, in this order
  abbrev pub key_addresses : List (List ℕ) → Option (List (Named Address))
  key_addresses [] = Some []
  key_addresses (name ∷ others) = with_one (key_address name) (key_addresses others)

  -- an asset, whose policy is the hash of the script
  abbrev pub asset_of : {Q : Type 0} → NamedAsset Q → Option (AssetQuantity Q)
  asset_of asset =
      option_map (λ script. record { policy = script_hash_of script; name = asset.name; quantity = asset.quantity })
      (bound_to asset.script names.of_scripts)

  abbrev pub assets_of : List (NamedAsset ℕ) → Option (List (AssetQuantity ℕ))
  assets_of [] = Some []
  assets_of (asset ∷ others) = with_one (asset_of asset) (assets_of others)

  -- a draft with a part, or the first fault
  abbrev pub part_meaning : Part → Draft → Result Draft LineFault
  part_meaning (SpendGrant index) d = spends (replicate hash_size 0) index d
  part_meaning (Spend tx index) d = where_known (bound_to tx names.of_txs) (λ t. spends (transaction_id_of t) index d)
  part_meaning (Pay owner coin assets) d =
      where_known (address_on owner)
      (λ address. where_known (assets_of assets) (λ all. where_built (with_output address coin all d)))
  part_meaning (SetFee fee) d = where_built (with_fee fee d)
  part_meaning (SetStart slot) d = where_built (with_start slot d)
  part_meaning (SetEnd slot) d = where_built (with_end slot d)
  part_meaning (MintAsset asset) d =
      where_known (asset_of asset)
      (λ a. if is_quantity a.quantity then where_built (with_minted a d) else Err NotBuilt)
  part_meaning (SignBy name good) d =
      where_known (bound_to name names.of_keys)
      (λ key. where_built (option_and_then (λ signer. with_signer signer d) (signer_with names.scheme key good)))
  part_meaning (Supply name) d =
      where_known (bound_to name names.of_scripts) (λ script. where_built (with_script script d))

-- ---- places

-- the point before the first block
abbrev pub genesis_point : Point
genesis_point = record { number = 0; hash = replicate hash_size 0 }

-- the point of the block of a name. A name that isn't bound to a block of a `block` or `forge` line has none
abbrev pub block_point : List Binding → (name : List ℕ) → Option Point
block_point names name = option_and_then (λ b. b.place) (bound_to name names)

-- the point of a place
abbrev pub point_at : List Binding → NamedPlace → Option Point
point_at names Genesis = Some genesis_point
point_at names (AtBlock name) = block_point names name

-- the points of these places, in this order
abbrev pub points_at : List Binding → List NamedPlace → Option (List Point)
points_at names [] = Some []
points_at names (place ∷ others) = with_one (point_at names place) (points_at names others)

-- ---- blocks

-- what a block may go on from: how many blocks there are up to here, and the hash of the last one
pub record Base : Type 0 where
  pub number : ℕ
  pub hash : Option (List ℕ)

abbrev pub base_at : Point → Base
base_at place = record { number = place.number; hash = Some place.hash }

-- the parent of a block
abbrev pub base_after : List Binding → NamedPlace → Option Base
base_after names Genesis = Some (record { number = 0; hash = None })
base_after names (AtBlock name) = option_map base_at (block_point names name)

-- the transactions of these names, in this order
abbrev pub txs_named : AllNames → List (List ℕ) → Option (List Transaction)
txs_named names [] = Some []
txs_named names (name ∷ others) = with_one (bound_to name names.of_txs) (txs_named names others)

-- the block of these transactions that goes on from here, whose header names the hash of its body
abbrev pub block_on : Base → ℕ → List Transaction → Block
block_on base slot txs = record {
  header = record { number = base.number + 1; slot = slot; previous = base.hash; body_hash = body_hash_of txs };
  transactions = txs;
}

-- the text of the block, with its place
abbrev pub bound_block : Block → Bound
bound_block block = record {
  bytes = block_text block;
  place = Some (record { number = block.header.number; hash = block_hash_of block });
}

abbrev pub bound_raw : List ℕ → Bound
bound_raw bytes = record { bytes = bytes; place = None }

-- a transaction nests two items deeper in a block, which nests at most 64 deep
abbrev pub fits_block : Transaction → Bool
fits_block tx = nat_le (nesting (item_of_transaction tx)) transaction_nesting_limit

-- the block, if its number and its slot are below the limit, and its transactions fit
abbrev pub built : Base → ℕ → List Transaction → Result Bound LineFault
built base slot txs =
    if nat_lt (base.number + 1) number_limit && (nat_lt slot number_limit && list_all fits_block txs)
    then Ok (bound_block (block_on base slot txs)) else Err NotBuilt

abbrev pub binds_bytes : List ℕ → Bound → Meaning
binds_bytes name bound = Defines (BindsBytes (record { name = name; bound = bound }))

abbrev pub block_meaning : AllNames → List ℕ → NamedPlace → ℕ → List (List ℕ) → Result Meaning LineFault
block_meaning names name parent slot txs =
    where_known (base_after names.of_bytes parent) (λ base. where_known (txs_named names txs)
    (λ all. where_free (bound_to name names.of_bytes) (meaning_by (binds_bytes name) (built base slot all))))

-- ---- what the lines mean

abbrev pub arrival_meaning : Form → List ℕ → Option Bound → Result Meaning LineFault
arrival_meaning form name found = where_known found (λ b. Ok (Arrives form name b.bytes))

-- a transaction is begun, in the line of this number
abbrev pub begun : ℕ → List ℕ → Result Meaning LineFault
begun number name = Ok (Defines (Continues (record { name = name; line = number; draft = empty_draft })))

-- the transaction with a part
abbrev pub continued : OpenTx → Draft → Meaning
continued making draft = Defines (Continues (record making { draft = draft }))

-- what a script's line means, where this is bound to its name: the name is taken, which is told first; or a script has
-- the text; or there is none that has
abbrev pub MeansScript : Option Script → (name bytes : List ℕ) → Result Meaning LineFault → Type 0
MeansScript (Some taken) name bytes result = result ≡ Err NameTaken
MeansScript None name bytes (Ok meaning) = (script : Script) × SpellsScript script bytes
    × (meaning ≡ Defines (BindsScript (record { name = name; bound = script })))
MeansScript None name bytes (Err fault) = (fault ≡ NotBuilt) × ((script : Script) → SpellsScript script bytes → ⊥)

-- what a line means between `tx` and `end`, where only parts and empty lines stand
abbrev pub meaning_inside : AllNames → OpenTx → Line → Result Meaning LineFault
meaning_inside names making Nothing = Ok (Defines NoDefinition)
meaning_inside names making (AddPart part) = meaning_by (continued making) (part_meaning names part making.draft)
meaning_inside names making EndTx = Ok (Defines (Finishes making))
meaning_inside names making line = Err BadLine

-- what a line of this number but a script's means elsewhere
abbrev pub meaning_outside : ℕ → AllNames → Line → Result Meaning LineFault
meaning_outside number names Nothing = Ok (Defines NoDefinition)
meaning_outside number names (DefineKey name bytes) =
    where_free (bound_to name names.of_keys) (built_key name (key_in bytes))
meaning_outside number names (DefineSeed name bytes) =
    where_free (bound_to name names.of_keys) (built_key name (secret_key_in names.scheme bytes))
meaning_outside number names (BeginTx name) = where_free (bound_to name names.of_txs) (begun number name)
meaning_outside number names (DefineBlock name parent slot txs) = block_meaning names name parent slot txs
meaning_outside number names (DefineRaw name bytes) =
    where_free (bound_to name names.of_bytes) (Ok (binds_bytes name (bound_raw bytes)))
meaning_outside number names (Arrive form name) = arrival_meaning form name (bound_to name names.of_bytes)
meaning_outside number names (SubmitTx name) = where_known (bound_to name names.of_txs) (λ tx. Ok (SubmitsTx name tx))
meaning_outside number names (ForgeBlock name slot) =
    where_free (bound_to name names.of_bytes) (Ok (ForgesBlock name slot))
meaning_outside number names (OpenFollower name) =
    where_free (bound_to name names.of_followers) (Ok (OpensFollower name))
meaning_outside number names (WatchKeys name keys) =
    where_known (key_addresses names keys)
    (λ all. where_free (bound_to name names.of_followers) (Ok (WatchesKeys name all)))
meaning_outside number names (AskNext name) =
    where_known (bound_to name names.of_followers) (λ id. Ok (TellsFollower name id))
meaning_outside number names (AskForward name places) =
    where_known (bound_to name names.of_followers) (λ id. where_known (points_at names.of_bytes places)
    (λ points. Ok (ForwardsFollower name id points)))
meaning_outside number names (CloseFollower name) =
    where_known (bound_to name names.of_followers) (λ id. Ok (ClosesFollower name id))
meaning_outside number names (DiscardBlock name) =
    where_known (block_point names.of_bytes name) (λ point. Ok (DiscardsBlock name point.hash))
meaning_outside number names AskTip = Ok PrintsTip
meaning_outside number names AskMempool = Ok PrintsMempool
meaning_outside number names AskUtxo = Ok PrintsUtxo
meaning_outside number names (AskWhy name) =
    where_known (block_point names.of_bytes name) (λ point. Ok (PrintsWhy name point.hash))
meaning_outside number names (AskWhere name) =
    where_known (bound_to name names.of_txs) (λ tx. Ok (PrintsWhere name (transaction_id_of tx)))
meaning_outside number names (AskBalance owner) =
    where_known (address_on names owner) (λ address. Ok (PrintsBalance owner address))
-- a part or an end of no transaction
meaning_outside number names line = Err BadLine

-- A text is a line or none, and stands inside of a transaction that is being made or outside of any. It means this, or
-- has this as its first fault.
abbrev pub MeansLine : (number : ℕ) → AllNames → Option OpenTx → Option Line → Result Meaning LineFault → Type 0
MeansLine number names making None result = result ≡ Err BadLine
MeansLine number names (Some making) (Some line) result = meaning_inside names making line ≡ result
MeansLine number names None (Some (DefineScript name bytes)) result =
    MeansScript (bound_to name names.of_scripts) name bytes result
MeansLine number names None (Some line) result = meaning_outside number names line ≡ result

-- what a line says, where the script isn't too long with it
abbrev pub parse_within : (before : ℕ) → (line : List ℕ) → Option Line
parse_within before line = if nat_le (before + length line) script_size_limit then parse_line line else None

-- WHAT A LINE MEANS
-- of this number, that comes after `before` bytes of the script, which may not be too long
abbrev pub Means : (number before : ℕ) → AllNames → (line : List ℕ) → Result Meaning LineFault → Type 0
Means number before names line result = MeansLine number names names.making (parse_within before line) result

-- ---- names after a definition

-- a transaction is bound that has just the parts of the draft, and a text
pub record IsFinished (names : AllNames) (making : OpenTx) (new : AllNames) : Type 0 where
  pub tx : Transaction
  pub text : List ℕ
  pub spelled : SpellsTransaction tx text
  pub is_tx : IsTxOfDraft making.draft tx
  pub is_new : new ≡
      record names { of_txs = names.of_txs ++ record { name = making.name; bound = tx } ∷ []; making = None }

abbrev pub AreNamesAfter : AllNames → Definition → AllNames → Type 0
AreNamesAfter names NoDefinition new = new ≡ names
AreNamesAfter names (BindsBytes binding) new = new ≡ record names { of_bytes = names.of_bytes ++ binding ∷ [] }
AreNamesAfter names (BindsKey key) new = new ≡ record names { of_keys = names.of_keys ++ key ∷ [] }
AreNamesAfter names (BindsScript script) new = new ≡ record names { of_scripts = names.of_scripts ++ script ∷ [] }
AreNamesAfter names (Continues making) new = new ≡ record names { making = Some making }
AreNamesAfter names (Finishes making) new = IsFinished names making new

-- ---- out of memory

-- whether there are any
abbrev pub are_some : List (List ℕ) → Bool
are_some [] = false
are_some (x ∷ xs) = true

-- Lines of which only memory tells whether they are built: a text to read, transactions to copy, assets to sort, an
-- asset to look up.
abbrev pub is_late : Line → Bool
is_late (DefineScript name bytes) = true
is_late (DefineBlock name parent slot txs) = are_some txs
is_late (AddPart (Pay owner coin assets)) = true
is_late (AddPart (MintAsset asset)) = true
is_late line = false

abbrev pub is_late_line : Option Line → Bool
is_late_line None = false
is_late_line (Some line) = is_late line

-- the line has no fault, except that it may not be built where only memory tells
abbrev pub HasNoFault : (number before : ℕ) → AllNames → (line : List ℕ) → Type 0
HasNoFault number before names line = (fault : LineFault) → Means number before names line (Err fault)
    → (fault ≡ NotBuilt) × IsTrue (is_late_line (parse_within before line))
