-- A network, its first output and transactions that serve as worked examples of the rules.
use Rattle.std.specs.Prelude.{◌≢◌, ℕ, pos, negsuc, List, [], ◌∷◌, replicate, None, IsTrue}
use Rattle.std.specs.FinMap as finite
use Rattle.model.specs.Limits.{hash_size}
use Rattle.model.specs.Value.{Policy, Value, Mint}
use Rattle.model.specs.Script.{Script, RequireAllOf, RequireAnyOf, NoScripts, script_hash_of}
use Rattle.model.specs.Transaction.{KeyHash, Input, Output, KeyWitness, Transaction, transaction_id_of, key_hash_of}
use Rattle.model.specs.Signature.{Verifies}
use Rattle.model.specs.Utxo.{Utxo, place}
use Rattle.model.specs.Rules.{Params}

-- a fee of 100 lovelace and 1 for each byte, at least 10 lovelace in an output, at most 4,096 bytes, in one era
abbrev pub small_params : Params
small_params = record {
  network = 0;
  min_fee_a = 1;
  min_fee_b = 100;
  min_utxo = 10;
  max_tx_size = 4096;
  max_body_size = 65536;
  second_era = None;
}

-- lovelace alone
abbrev pub coin_alone : ℕ → Value
coin_alone coin = record { coin = coin; assets = [] }

-- a quantity of what a policy has under no name
abbrev pub unnamed : {Q : Type 0} → List ℕ → Q → List (Policy Q)
unnamed policy quantity = record { id = policy; tokens = record { name = []; quantity = quantity } ∷ [] } ∷ []

-- lovelace and a quantity of what a policy has under no name
abbrev pub coin_and : ℕ → (policy : List ℕ) → ℕ → Value
coin_and coin policy quantity = record { coin = coin; assets = unnamed policy quantity }

-- an output to the owner of a key
abbrev pub output_to : (key : List ℕ) → Value → Output
output_to key value = record { address = record { network = 0; payment = KeyHash (key_hash_of key) }; value = value }

-- where the one output stands that there is at first
abbrev pub first_place : Input
first_place = place (replicate hash_size 0) 0

-- at first the owner of a key has 1,200 lovelace
abbrev pub first_utxo : (key : List ℕ) → Utxo
first_utxo key = finite.from_sorted ((first_place, output_to key (coin_alone 1200)) ∷ [])

-- a transaction of one input that holds in every slot
abbrev pub spending : Input → List Output → (fee : ℕ) → Mint → List KeyWitness → List Script → Transaction
spending input outputs fee mint signatures scripts =
    record {
      inputs = input ∷ [];
      outputs = outputs;
      fee = fee;
      end = None;
      start = None;
      mint = mint;
      signatures = signatures;
      scripts = scripts;
    }

-- the owner of a key spends the first output, and gets `coin` of it back
abbrev pub payment : (key : List ℕ) → (coin fee : ℕ) → List KeyWitness → Transaction
payment key coin fee signatures = spending first_place (output_to key (coin_alone coin) ∷ []) fee [] signatures []

-- the owner spends the first output on two that hold 2 ^ 63 of an asset each, which stood nowhere and is not minted
abbrev pub two_halves : KeyWitness → (policy : List ℕ) → Transaction
two_halves w policy =
    let half : Output = output_to w.key (coin_and 300 policy 9223372036854775808) in
    spending first_place (half ∷ half ∷ []) 600 [] (w ∷ []) []

-- a script that always holds, and one that never does
abbrev pub always : Script
always = RequireAllOf NoScripts

abbrev pub never : Script
never = RequireAnyOf NoScripts

-- the owner spends the first output, and mints 5 under a script's policy
abbrev pub minting : KeyWitness → Script → List Script → Transaction
minting w script scripts =
    spending first_place (output_to w.key (coin_and 800 (script_hash_of script) 5) ∷ []) 400
    (unnamed (script_hash_of script) (pos 5)) (w ∷ []) scripts

-- the owner spends that output again, and takes the 5 away
abbrev pub burning : (minted : Transaction) → KeyWitness → List Script → Transaction
burning minted w scripts =
    spending (place (transaction_id_of minted) 0) (output_to w.key (coin_alone 400) ∷ []) 400
    (unnamed (script_hash_of always) (negsuc 4)) (w ∷ []) scripts

-- its identifier isn't that under which the first output stands
abbrev pub IsFresh : Transaction → Type 0
IsFresh t = transaction_id_of t ≢ first_place.transaction

-- the signature is good for the key and this transaction
abbrev pub Signs : Verifies → KeyWitness → Transaction → Type 0
Signs verifies w t = IsTrue (verifies w.key (transaction_id_of t) w.signature)
