-- The rules of a transaction: fourteen conditions, and the first of them that fails. Conditions 1 to 8 are those of
-- UTXO (Shelley and Shelley-MA, UTxO transitions), 10 to 14 those of UTXOW (witnesses). Condition 9 and the order are
-- this project's own.
use Rattle.std.specs.Prelude.{ℕ, ◌+◌, ◌*◌, nat_le, nat_lt, ◌==◌, Bool, true, not, ◌&&◌, is_some, if◌then◌else◌}
use Rattle.std.specs.Prelude.{List, [], ◌∷◌, ◌++◌, length, map, flat_map, Option, Some, None, bytes_eq}
use Rattle.std.specs.List.{list_any, list_all}
use Rattle.model.specs.Script.{Interval, script_hash_of, holds}
use Rattle.model.specs.Transaction.{Credential, KeyHash, ScriptHash, Output, Transaction, interval_of_transaction}
use Rattle.model.specs.Transaction.{size_of, transaction_id_of, key_hash_of}
use Rattle.model.specs.Signature.{Verifies}
use Rattle.model.specs.Utxo.{Utxo, output_at, spent_outputs, new_pairs}
use Rattle.model.specs.Balance.{assets_under, is_balanced}

-- when a second era begins, and what is new in it
pub record SecondEra : Type 0 where
  pub first_slot : ℕ  -- the first slot that is judged by it
  pub per_asset : ℕ  -- how much more lovelace an output holds at least for each of its assets

-- what a network asks of each transaction, and of each block's body (Shelley, protocol parameters)
pub record Params : Type 0 where
  pub network : ℕ  -- which network this is, 0 to 15
  pub min_fee_a : ℕ  -- the least fee for each byte of a transaction, in lovelace
  pub min_fee_b : ℕ  -- the least fee for a transaction, whatever its size, in lovelace
  pub min_utxo : ℕ  -- how much lovelace an output holds at least
  pub max_tx_size : ℕ  -- how many bytes a transaction has at most
  pub max_body_size : ℕ  -- how many bytes a block's body has at most
  pub second_era : Option SecondEra  -- none where the network has one era for ever

-- ---- eras: what is asked changes with the slot at which a transaction is judged

-- what one era asks of an output
pub record Era : Type 0 where
  pub min_utxo : ℕ  -- how much lovelace it holds at least, whatever else it holds
  pub per_asset : ℕ  -- how much more for each of its assets

-- the same of every output
abbrev pub flat_era : Params → Era
flat_era params = record { min_utxo = params.min_utxo; per_asset = 0 }

-- more of an output with assets
abbrev pub scaled_era : Params → (per_asset : ℕ) → Era
scaled_era params per_asset = record { min_utxo = params.min_utxo; per_asset = per_asset }

-- the era of a slot, where a second one may be given
abbrev pub era_among : Params → Option SecondEra → (slot : ℕ) → Era
era_among params None slot = flat_era params
era_among params (Some second) slot =
    if nat_le second.first_slot slot then scaled_era params second.per_asset else flat_era params

-- ERA OF A SLOT (this project's own)
-- What is asked of a transaction that is judged at this slot: a third era would be one more case here.
abbrev pub era_at : Params → (slot : ℕ) → Era
era_at params slot = era_among params params.second_era slot

-- the same network if it had one era for ever
abbrev pub in_one_era : Params → Params
in_one_era params = record params { second_era = None }

-- ---- reasons

-- what may be said against a transaction, in the order in which it is looked for; each reason has its condition below
pub data Reason : Type 0 where
  OutsideInterval : Reason
  NoInputs : Reason
  TooBig : Reason
  FeeTooSmall : Reason
  MissingInput : Reason
  OutputTooSmall : Reason
  WrongNetwork : Reason
  NotBalanced : Reason
  OutputExists : Reason
  BadSignature : Reason
  MissingKeyWitness : Reason
  MissingScript : Reason
  ExtraScript : Reason
  ScriptFails : Reason

abbrev pub reason_number : Reason → ℕ
reason_number OutsideInterval = 1
reason_number NoInputs = 2
reason_number TooBig = 3
reason_number FeeTooSmall = 4
reason_number MissingInput = 5
reason_number OutputTooSmall = 6
reason_number WrongNetwork = 7
reason_number NotBalanced = 8
reason_number OutputExists = 9
reason_number BadSignature = 10
reason_number MissingKeyWitness = 11
reason_number MissingScript = 12
reason_number ExtraScript = 13
reason_number ScriptFails = 14

-- ---- UTXO: what is spent and what is made

-- a slot passes the test, where it is given
abbrev pub passes_if_given : Option ℕ → (ℕ → Bool) → Bool
passes_if_given None passes = true
passes_if_given (Some slot) passes = passes slot

-- 1: the slot lies in the transaction's interval: at its start or later, and before its end (Shelley-MA: ininterval)
abbrev pub is_in_interval : ℕ → Interval → Bool
is_in_interval slot interval =
    passes_if_given interval.start (λ start. nat_le start slot) && passes_if_given interval.end (λ end. nat_lt slot end)

-- 2: it spends something (Shelley: its inputs are not empty), so it can't come twice
abbrev pub has_inputs : Transaction → Bool
has_inputs t = nat_lt 0 (length t.inputs)

-- 3: it is not too big (Shelley: its size is at most maxTxSize)
abbrev pub is_small_enough : Params → Transaction → Bool
is_small_enough params t = nat_le (size_of t) params.max_tx_size

-- the least fee of a transaction, by its size (Shelley: minfee)
abbrev pub min_fee : Params → Transaction → ℕ
min_fee params t = params.min_fee_a * size_of t + params.min_fee_b

-- 4: its fee is at least that (Shelley: minfee is at most the fee)
abbrev pub pays_fee : Params → Transaction → Bool
pays_fee params t = nat_le (min_fee params t) t.fee

-- 5: each of its inputs stands in the UTXO (Shelley: its inputs are in the domain of the UTxO)
abbrev pub finds_inputs : Utxo → Transaction → Bool
finds_inputs utxo t = list_all (λ input. is_some (output_at utxo input)) t.inputs

-- how many assets an output holds beside ada: pairs of a policy and a name, each of which stands once in a value's text
abbrev pub asset_count : Output → ℕ
asset_count o = length (assets_under o.value.assets)

-- the least coin of an output, by its assets (Shelley: minUTxOValue, which is flat; Shelley-MA scales it by the size of
-- the value, and that it is scaled by the number of assets is this project's own)
abbrev pub least_coin : Era → Output → ℕ
least_coin era o = era.min_utxo + era.per_asset * asset_count o

-- 6: each of its outputs holds that
abbrev pub outputs_reach_minimum : Era → Transaction → Bool
outputs_reach_minimum era t = list_all (λ o. nat_le (least_coin era o) o.value.coin) t.outputs

-- 7: each of its outputs is of this network (Shelley: the network of each output's address)
abbrev pub outputs_are_on_network : Params → Transaction → Bool
outputs_are_on_network params t = list_all (λ o. o.address.network == params.network) t.outputs

-- 8: it preserves value, which is `is_balanced` (Shelley-MA: consumed is produced)

-- 9: no pair of the UTXO stands where one of its outputs will stand, so none is overwritten. The specifications have
-- no such rule: they take it that no two bodies have one hash.
abbrev pub has_free_places : Utxo → Transaction → Bool
has_free_places utxo t = list_all (λ p. not (is_some (output_at utxo p.0))) (new_pairs t)

-- ---- UTXOW: signatures and scripts

-- the bytes are one of these
abbrev pub is_among : List (List ℕ) → List ℕ → Bool
is_among all bytes = list_any (λ b. bytes_eq b bytes) all

-- each of the first is one of the second
abbrev pub are_among : List (List ℕ) → List (List ℕ) → Bool
are_among some all = list_all (is_among all) some

-- the hash of the key that locks an output, if a key does
abbrev pub key_hashes_in : Credential → List (List ℕ)
key_hashes_in (KeyHash hash) = hash ∷ []
key_hashes_in (ScriptHash hash) = []

-- the hash of the script that locks it, if a script does
abbrev pub script_hashes_in : Credential → List (List ℕ)
script_hashes_in (KeyHash hash) = []
script_hashes_in (ScriptHash hash) = hash ∷ []

-- the hashes of the keys that have to sign: those that lock an output spent (Shelley: witsVKeyNeeded)
abbrev pub keys_needed : Utxo → Transaction → List (List ℕ)
keys_needed utxo t = flat_map (λ o. key_hashes_in o.address.payment) (spent_outputs utxo t)

-- the hashes of the scripts that have to be supplied: those that lock an output spent, and the policies of what is
-- minted (Shelley-MA: scriptsNeeded)
abbrev pub scripts_needed : Utxo → Transaction → List (List ℕ)
scripts_needed utxo t =
    flat_map (λ o. script_hashes_in o.address.payment) (spent_outputs utxo t) ++ map (λ policy. policy.id) t.mint

-- the hashes of the keys that signed
abbrev pub keys_of : Transaction → List (List ℕ)
keys_of t = map (λ witness. key_hash_of witness.key) t.signatures

-- the hashes of the scripts that are supplied
abbrev pub scripts_of : Transaction → List (List ℕ)
scripts_of t = map script_hash_of t.scripts

-- 10: each signature is good for its key over the transaction's identifier (Shelley: each key and signature of the
-- witnesses verifies the hash of the body)
abbrev pub has_good_signatures : Verifies → Transaction → Bool
has_good_signatures verifies t =
    list_all (λ witness. verifies witness.key (transaction_id_of t) witness.signature) t.signatures

-- 11: each key that has to sign did; more may (Shelley: witsVKeyNeeded is a part of witsKeyHashes)
abbrev pub has_needed_keys : Utxo → Transaction → Bool
has_needed_keys utxo t = are_among (keys_needed utxo t) (keys_of t)

-- 12: each script that is needed is supplied (Shelley-MA: scriptsNeeded is a part of the scripts supplied)
abbrev pub has_needed_scripts : Utxo → Transaction → Bool
has_needed_scripts utxo t = are_among (scripts_needed utxo t) (scripts_of t)

-- 13: and no other one is (Shelley-MA: the scripts supplied are a part of scriptsNeeded)
abbrev pub has_no_other_scripts : Utxo → Transaction → Bool
has_no_other_scripts utxo t = are_among (scripts_of t) (scripts_needed utxo t)

-- 14: each script that is supplied holds (Shelley-MA: validateScript)
abbrev pub scripts_hold : Transaction → Bool
scripts_hold t = list_all (holds (keys_of t) (interval_of_transaction t)) t.scripts

-- ---- the first reason

-- whether the condition of a reason holds, at a slot and on a UTXO
abbrev pub passes : Verifies → Params → Utxo → (slot : ℕ) → Transaction → Reason → Bool
passes verifies params utxo slot t OutsideInterval = is_in_interval slot (interval_of_transaction t)
passes verifies params utxo slot t NoInputs = has_inputs t
passes verifies params utxo slot t TooBig = is_small_enough params t
passes verifies params utxo slot t FeeTooSmall = pays_fee params t
passes verifies params utxo slot t MissingInput = finds_inputs utxo t
passes verifies params utxo slot t OutputTooSmall = outputs_reach_minimum (era_at params slot) t
passes verifies params utxo slot t WrongNetwork = outputs_are_on_network params t
passes verifies params utxo slot t NotBalanced = is_balanced utxo t
passes verifies params utxo slot t OutputExists = has_free_places utxo t
passes verifies params utxo slot t BadSignature = has_good_signatures verifies t
passes verifies params utxo slot t MissingKeyWitness = has_needed_keys utxo t
passes verifies params utxo slot t MissingScript = has_needed_scripts utxo t
passes verifies params utxo slot t ExtraScript = has_no_other_scripts utxo t
passes verifies params utxo slot t ScriptFails = scripts_hold t

-- all reasons, by their numbers
abbrev pub reasons : List Reason
reasons =
    OutsideInterval ∷ NoInputs ∷ TooBig ∷ FeeTooSmall ∷ MissingInput ∷ OutputTooSmall ∷ WrongNetwork ∷ NotBalanced
    ∷ OutputExists ∷ BadSignature ∷ MissingKeyWitness ∷ MissingScript ∷ ExtraScript ∷ ScriptFails ∷ []

-- the first reason whose test fails
abbrev pub first_failing : (Reason → Bool) → List Reason → Option Reason
first_failing test [] = None
first_failing test (r ∷ rs) = if test r then first_failing test rs else Some r

-- RULES OF A TRANSACTION (Shelley and Shelley-MA, UTXO and UTXOW; the order is this project's own)
-- The reason against a transaction, at a slot and on a UTXO: the first of the fourteen whose condition fails, and none
-- where all hold.
unfoldable pub reason_against : Verifies → Params → Utxo → (slot : ℕ) → Transaction → Option Reason
reason_against verifies params utxo slot t = first_failing (passes verifies params utxo slot t) reasons
