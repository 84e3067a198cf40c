-- A transaction in the making (this project's own): the parts of which it is to be made, what may be added to them, and
-- which transactions have just these parts.
use Rattle.std.specs.Prelude.{◌≡◌, ℕ, ◌<◌, ◌≤◌, nat_lt, nat_le, ℤ, pos, negsuc, Bool, false, ◌==◌, ◌||◌, List, []}
use Rattle.std.specs.Prelude.{◌∷◌, ◌++◌, length, map, Option, Some, None, is_some, unwrap_or, bytes_eq}
use Rattle.std.specs.Prelude.{if◌then◌else◌}
use Rattle.std.specs.List.{list_any, count_by, AllZip}
use Rattle.model.specs.Cbor.{nesting, text_of}
use Rattle.model.specs.Limits.{script_nesting_limit, name_size_limit, output_limit}
use Rattle.model.specs.Script.{Script, item_of_script, script_hash_of}
use Rattle.model.specs.Transaction.{Address, Input, Output, KeyWitness, Transaction, SpellsTransaction}
use Rattle.model.specs.Transaction.{transaction_id_of, item_of_body, item_of_transaction}
use Rattle.model.specs.Value.{Mint}
use Rattle.value.specs.Parts as values
use Rattle.value.specs.Parts.{AssetQuantity, IsValueOf, IsMintOf, is_of}
use Rattle.value.specs.declared.asset_fault.AssetFault.TheVariants as asset_faults
use Rattle.tx.specs.Parts.{Parts, IsTxOf, IsPartsFault}
use Rattle.tx.specs.Repeats.{same_input}
use Rattle.tx.specs.declared.parts_fault.PartsFault.TheVariants as faults

-- an output: coin in lovelace, and assets in any order
pub record DraftOutput : Type 0 where
  pub address : Address
  pub coin : ℕ
  pub assets : List (AssetQuantity ℕ)

-- who is to sign: a public key, and the signature that it makes of a message
pub record Signer : Type 0 where
  pub key : List ℕ
  pub signs : (message : List ℕ) → List ℕ

-- a signature that was made elsewhere, as its signer: it makes this one of each message
abbrev pub made_elsewhere : (key signature : List ℕ) → Signer
made_elsewhere key signature = record { key = key; signs = λ message. signature }

-- the parts, in the order in which they were added
pub record Draft : Type 0 where
  pub inputs : List Input
  pub outputs : List DraftOutput
  pub fee : Option ℕ
  pub start : Option ℕ
  pub end : Option ℕ
  pub mint : List (AssetQuantity ℤ)
  pub signers : List Signer
  pub scripts : List Script

-- nothing was added yet
abbrev pub empty_draft : Draft
empty_draft =
    record {
      inputs = [];
      outputs = [];
      fee = None;
      start = None;
      end = None;
      mint = [];
      signers = [];
      scripts = [];
    }

-- ---- what is there

-- the input is among these
abbrev pub has_input : Input → List Input → Bool
has_input input inputs = list_any (λ other. same_input other input) inputs

-- one of these is a quantity of what the policy has under the name
abbrev pub has_asset : {Q : Type 0} → (policy name : List ℕ) → List (AssetQuantity Q) → Bool
has_asset policy name assets = list_any (is_of policy name) assets

-- the key is one of these signers'
abbrev pub has_key : List ℕ → List Signer → Bool
has_key key signers = list_any (λ signer. bytes_eq signer.key key) signers

-- one of these scripts has the hash
abbrev pub has_hash : List ℕ → List Script → Bool
has_hash hash scripts = list_any (λ script. bytes_eq (script_hash_of script) hash) scripts

-- ---- what no transaction has

-- an asset stands there twice
abbrev pub has_twice : {Q : Type 0} → List (AssetQuantity Q) → Bool
has_twice [] = false
has_twice (a ∷ others) = has_asset a.policy a.name others || has_twice others

-- the number is 0
abbrev pub is_zero : ℤ → Bool
is_zero (pos n) = n == 0
is_zero (negsuc n) = false

-- a name of more than 32 bytes
abbrev pub is_long : List ℕ → Bool
is_long name = nat_lt name_size_limit (length name)

-- the assets are those of no output: a name is too long, a quantity is 0, or an asset stands there twice
abbrev pub is_at_fault : List (AssetQuantity ℕ) → Bool
is_at_fault assets =
    list_any (λ a. is_long a.name) assets || (list_any (λ a. a.quantity == 0) assets || has_twice assets)

-- there are as many outputs as an index can name
abbrev pub are_full : List DraftOutput → Bool
are_full outputs = nat_le output_limit (length outputs)

-- the script nests too deep to stand in a transaction
abbrev pub is_deep : Script → Bool
is_deep script = nat_lt script_nesting_limit (nesting (item_of_script script))

-- ---- what is added

-- a draft, unless it is ruled out
abbrev pub unless : Bool → Draft → Option Draft
unless out draft = if out then None else Some draft

abbrev pub with_input : Input → Draft → Option Draft
with_input input d = unless (has_input input d.inputs) (record d { inputs = d.inputs ++ input ∷ [] })

abbrev pub with_output : Address → ℕ → List (AssetQuantity ℕ) → Draft → Option Draft
with_output address coin assets d =
    unless (are_full d.outputs || is_at_fault assets)
    (record d { outputs = d.outputs ++ record { address = address; coin = coin; assets = assets } ∷ [] })

abbrev pub with_fee : ℕ → Draft → Option Draft
with_fee fee d = unless (is_some d.fee) (record d { fee = Some fee })

abbrev pub with_start : ℕ → Draft → Option Draft
with_start slot d = unless (is_some d.start) (record d { start = Some slot })

abbrev pub with_end : ℕ → Draft → Option Draft
with_end slot d = unless (is_some d.end) (record d { end = Some slot })

abbrev pub with_minted : AssetQuantity ℤ → Draft → Option Draft
with_minted a d =
    unless (is_long a.name || (is_zero a.quantity || has_asset a.policy a.name d.mint))
    (record d { mint = d.mint ++ a ∷ [] })

abbrev pub with_signer : Signer → Draft → Option Draft
with_signer signer d = unless (has_key signer.key d.signers) (record d { signers = d.signers ++ signer ∷ [] })

abbrev pub with_signature : (key signature : List ℕ) → Draft → Option Draft
with_signature key signature d = with_signer (made_elsewhere key signature) d

abbrev pub with_script : Script → Draft → Option Draft
with_script script d =
    unless (is_deep script || has_hash (script_hash_of script) d.scripts)
    (record d { scripts = d.scripts ++ script ∷ [] })

-- ---- what is never wrong with a draft

-- no key is that of two of these
abbrev pub AreOnce : {K X : Type 0} → (K → X → Bool) → List X → Type 0
AreOnce {K = K} is xs = (key : K) → ¬ (1 < count_by (is key) xs)

-- the parts have none of the faults for which a mint or a transaction is not made of parts
pub record AreSound (inputs : List Input) (outputs : List DraftOutput) (mint : List (AssetQuantity ℤ))
    (signers : List Signer) (scripts : List Script) : Type 0 where
  pub inputs_once : AreOnce same_input inputs
  pub outputs_few : length outputs ≤ output_limit
  pub names_short : list_any (λ a. is_long a.name) mint ≡ false
  pub none_zero : list_any (λ a. is_zero a.quantity) mint ≡ false
  pub assets_once : AreOnce (λ (asset : List ℕ × List ℕ). is_of asset.0 asset.1) mint
  pub keys_once : AreOnce (λ key signer. bytes_eq key signer.key) signers
  pub scripts_once : AreOnce (λ hash script. bytes_eq hash (script_hash_of script)) scripts
  pub scripts_flat : list_any is_deep scripts ≡ false

-- those of the draft have none
abbrev pub IsSound : Draft → Type 0
IsSound d = AreSound d.inputs d.outputs d.mint d.signers d.scripts

-- ---- the transaction

-- what a signer makes of an identifier
abbrev pub witness_by : List ℕ → Signer → KeyWitness
witness_by id signer = record { key = signer.key; signature = signer.signs id }

-- the output has this address, this coin and just these assets
pub record IsOutputOf (draft : DraftOutput) (output : Output) : Type 0 where
  pub address : output.address ≡ draft.address
  pub value : IsValueOf output.value draft.coin draft.assets

-- the parts of a draft, of which outputs and mint are given as a transaction has them, signed under an identifier
abbrev pub parts_with : Draft → List Output → Mint → List ℕ → Parts
parts_with d outputs mint id =
    record {
      inputs = d.inputs;
      outputs = outputs;
      fee = unwrap_or d.fee 0;
      interval = record { start = d.start; end = d.end };
      mint = mint;
      signatures = map (witness_by id) d.signers;
      scripts = d.scripts;
    }

-- The transaction has just the parts of the draft: its outputs are the draft's, in their order, its fee is 0 where
-- none was told, and its own identifier is what was signed.
pub record IsTxOfDraft (d : Draft) (tx : Transaction) : Type 0 where
  pub outputs : AllZip IsOutputOf d.outputs tx.outputs
  pub mint : IsMintOf tx.mint d.mint
  pub parts : IsTxOf tx (parts_with d tx.outputs tx.mint (transaction_id_of tx))

-- the draft with these keys and scripts in place of its own
abbrev pub with_witnesses : Draft → List Signer → List Script → Draft
with_witnesses d signers scripts = record d { signers = signers; scripts = scripts }

-- the draft without keys and scripts, of which the identifier is
abbrev pub without_witnesses : Draft → Draft
without_witnesses d = with_witnesses d [] []

-- the transaction has the parts of the draft, whoever signed it and whatever scripts are supplied
pub record HasPartsOf (d : Draft) (tx : Transaction) : Type 0 where
  pub signers : List Signer
  pub scripts : List Script
  pub is_tx : IsTxOfDraft (with_witnesses d signers scripts) tx
  pub spelled : SpellsTransaction tx (text_of (item_of_transaction tx))

-- there is a transaction with the parts of the draft, and of each one that has them these bytes are told
pub record IsToldOfAll (told : Transaction → List ℕ) (d : Draft) (bytes : List ℕ) : Type 0 where
  pub one : (tx : Transaction) × HasPartsOf d tx
  pub all : (tx : Transaction) → HasPartsOf d tx → told tx ≡ bytes

-- the text of its body, whoever signs
abbrev pub IsBodyOf : Draft → List ℕ → Type 0
IsBodyOf d text = IsToldOfAll (λ tx. text_of (item_of_body tx)) d text

-- its identifier, whoever signs
abbrev pub IsIdOf : Draft → List ℕ → Type 0
IsIdOf d id = IsToldOfAll transaction_id_of d id

-- the transaction with no signatures and no scripts
abbrev pub body_alone : Transaction → Transaction
body_alone tx = record tx { signatures = []; scripts = [] }

-- the draft with the signatures that its signers make of an identifier, added in place of the signers
abbrev pub signed_elsewhere : List ℕ → Draft → Draft
signed_elsewhere id d = record d { signers = map (λ s. made_elsewhere s.key (s.signs id)) d.signers }

-- whatever is minted and whatever identifier is signed, no transaction of the parts of the draft is refused for another
-- fault than OutOfMemory
abbrev pub IsFaultless : Draft → Type 0
IsFaultless d =
    (outputs : List Output) (mint : Mint) (id : List ℕ) → AllZip IsOutputOf d.outputs outputs
    → IsPartsFault (parts_with d outputs mint id) faults.OutOfMemory

-- No mint of what is minted is refused for another fault than OutOfMemory, and no transaction of the parts is, with
-- witnesses or without them.
pub record HasNoFault (d : Draft) : Type 0 where
  pub mint : values.IsAssetFault (λ quantity. quantity) d.mint asset_faults.OutOfMemory
  pub whole : IsFaultless d
  pub body : IsFaultless (without_witnesses d)
