-- A transaction as JSON.
use Rattle.std.specs.Prelude.{ℕ, pos, List, [], ◌∷◌, codes}
use Rattle.serde_json.specs.Data.{Data, boolean, string}
use Rattle.model.specs.Signature.{Verifies}
use Rattle.model.specs.Transaction.{Credential, KeyHash, ScriptHash, Address, Input, Output, KeyWitness, Transaction}
use Rattle.model.specs.Transaction.{size_of, transaction_id_of}
use Rattle.model.specs.Rules.{scripts_hold}
use Rattle.describing.specs.Parts.{json_of_number, json_of_given, json_of_bytes, json_list, object_of}
use Rattle.describing.specs.Values.{json_of_assets}
use Rattle.describing.specs.Scripts.{json_of_script}

-- ---- what is spent and left

-- an input: the transaction whose output it spends, and the place of that
abbrev pub json_of_input : Input → Data
json_of_input input = object_of (
    (codes "index", json_of_number input.index)
    ∷ (codes "transaction", json_of_bytes input.transaction) ∷ [])

-- an address: whether a key or a script unlocks it, its network, and the hash of that key or script
abbrev pub json_of_payment : (network : ℕ) → (kind hash : List ℕ) → Data
json_of_payment network kind hash = object_of (
    (codes "hash", json_of_bytes hash)
    ∷ (codes "kind", string kind)
    ∷ (codes "network", json_of_number network) ∷ [])

abbrev pub json_of_credential : (network : ℕ) → Credential → Data
json_of_credential network (KeyHash hash) = json_of_payment network (codes "key") hash
json_of_credential network (ScriptHash hash) = json_of_payment network (codes "script") hash

abbrev pub json_of_address : Address → Data
json_of_address address = json_of_credential address.network address.payment

-- an output: its address, and what its value has
abbrev pub json_of_output : Output → Data
json_of_output output = object_of (
    (codes "address", json_of_address output.address)
    ∷ (codes "assets", json_of_assets pos output.value.assets)
    ∷ (codes "coin", json_of_number output.value.coin) ∷ [])

-- ---- the verdicts

-- a signature of this message: the key that made it, and whether the scheme has it good
abbrev pub json_of_signature : Verifies → (message : List ℕ) → KeyWitness → Data
json_of_signature verifies message witness = object_of (
    (codes "good", boolean (verifies witness.key message witness.signature))
    ∷ (codes "key", json_of_bytes witness.key) ∷ [])

-- A TRANSACTION AS JSON: its identifier, its size in bytes, its body and its witness set with the verdicts on it. It
-- holds from the slot `start` on and before the slot `end`, and its signatures are those of the identifier.
abbrev pub json_of_transaction : Verifies → Transaction → Data
json_of_transaction verifies t = object_of (
    (codes "end", json_of_given t.end)
    ∷ (codes "fee", json_of_number t.fee)
    ∷ (codes "id", json_of_bytes (transaction_id_of t))
    ∷ (codes "inputs", json_list json_of_input t.inputs)
    ∷ (codes "mint", json_of_assets (λ quantity. quantity) t.mint)
    ∷ (codes "outputs", json_list json_of_output t.outputs)
    ∷ (codes "scripts", json_list json_of_script t.scripts)
    ∷ (codes "scripts_hold", boolean (scripts_hold t))
    ∷ (codes "signatures", json_list (json_of_signature verifies (transaction_id_of t)) t.signatures)
    ∷ (codes "size", json_of_number (size_of t))
    ∷ (codes "start", json_of_given t.start) ∷ [])
