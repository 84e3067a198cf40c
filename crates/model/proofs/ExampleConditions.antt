-- Transactions of one input as worked examples: what their conditions come to.
use Rattle.std.proofs.Common.{◌≡◌, ◌≢◌, ℕ, ◌+◌, ◌*◌, ◌<◌, ◌+ℤ◌, Bool, true, false, cond, not, ◌&&◌, ◌||◌, List, [], ◌∷◌, ◌++◌, Option, Some, None, refl, sym, ap, subst, ◌∙◌, arith, is_some}
use Rattle.std.specs.Prelude.{nat_le, bytes_eq, option_to_list, flat_map}
use Rattle.std.specs.FinMap as finite
use Rattle.std.specs.Ordering.{eq_by_cmp}
use Rattle.std.proofs.lemmas.Bool.{false_from_ne_true}
use Rattle.std.proofs.lemmas.Slice.Eq.{bytes_eq-Decides}
use Rattle.model.specs.Value.{Value, Mint, Asset, minted_amount}
use Rattle.model.specs.Script.{Script}
use Rattle.model.specs.Transaction.{Input, Output, KeyWitness, Transaction, input_cmp, transaction_id_of, size_of, key_hash_of}
use Rattle.model.specs.Signature.{Verifies}
use Rattle.model.specs.Utxo.{Utxo, output_at, is_one_of, spent_outputs, place, IsNewPlace, utxo_after, sum_of}
use Rattle.model.specs.Balance.{amount_of_fee, is_balanced}
use Rattle.model.specs.Rules.{Reason, OutsideInterval, NoInputs, TooBig, FeeTooSmall, MissingInput, OutputTooSmall, WrongNetwork, NotBalanced, OutputExists, reason_number, passes, finds_inputs, era_at, outputs_reach_minimum, outputs_are_on_network, has_free_places, key_hashes_in, script_hashes_in, keys_needed, has_needed_keys}
use Rattle.model.specs.TransactionExamples.{small_params, coin_alone, output_to, first_place, first_utxo, spending, IsFresh}
use Rattle.model.proofs.Balances.{preserves_balanced}
use Rattle.model.proofs.Unspent.{same_to, apart_from, after_elsewhere}

-- ---- what stands where

pub bytes_self : (bytes : List ℕ) → bytes_eq bytes bytes ≡ true
bytes_self bytes = (bytes_eq-Decides bytes bytes).1 refl

pub bytes_apart : (a b : List ℕ) → a ≢ b → bytes_eq a b ≡ false
bytes_apart a b apart = false_from_ne_true (bytes_eq a b) (λ h. apart ((bytes_eq-Decides a b).0 h))

pub at_first : (key : List ℕ) → output_at (first_utxo key) first_place ≡ Some (output_to key (coin_alone 1200))
at_first key =
    finite.get-from_sorted input_cmp ((first_place, output_to key (coin_alone 1200)) ∷ []) first_place tt
    ∙ ap (λ (b : Bool). cond b (Some (output_to key (coin_alone 1200))) None) (same_to first_place)

at_elsewhere : (key : List ℕ) (q : Input) → (q ≡ first_place → ⊥) → output_at (first_utxo key) q ≡ None
at_elsewhere key q apart =
    finite.get-from_sorted input_cmp ((first_place, output_to key (coin_alone 1200)) ∷ []) q tt
    ∙ ap (λ (b : Bool). cond b (Some (output_to key (coin_alone 1200))) None) (apart_from q first_place apart)

-- a fresh transaction has room for its first output
pub fresh_place : (key : List ℕ) (t : Transaction) → IsFresh t → output_at (first_utxo key) (place (transaction_id_of t) 0) ≡ None
fresh_place key t fresh = at_elsewhere key (place (transaction_id_of t) 0) (λ e. fresh (ap (λ (i : Input). i.transaction) e))

-- and so has one that comes after another that spent the first output
pub place_after : (key : List ℕ) (s t : Transaction) → s.inputs ≡ first_place ∷ [] → transaction_id_of t ≢ transaction_id_of s → output_at (utxo_after (first_utxo key) s) (place (transaction_id_of t) 0) ≡ None
place_after key s t spent fresh =
    let q : Input = place (transaction_id_of t) 0 in
    let elsewhere : IsNewPlace s q → ⊥ = λ new. fresh (ap (λ (i : Input). i.transaction) new.2) in
    after_elsewhere (first_utxo key) s q elsewhere ∙ ap (λ (is : List Input). cond (is_one_of is q) None (output_at (first_utxo key) q)) spent ∙ none_there (eq_by_cmp input_cmp first_place q) refl
  where
    none_there : (b : Bool) → eq_by_cmp input_cmp first_place (place (transaction_id_of t) 0) ≡ b → cond (b || false) None (output_at (first_utxo key) (place (transaction_id_of t) 0)) ≡ None
    none_there true is = refl
    none_there false is = at_elsewhere key (place (transaction_id_of t) 0)
        (λ e. let same : eq_by_cmp input_cmp first_place (place (transaction_id_of t) 0) ≡ true = subst (λ (i : Input). eq_by_cmp input_cmp first_place i ≡ true) (sym e) (same_to first_place) in cc)

-- ---- conditions of a transaction that spends the output of a key

module _ (utxo : Utxo) (input : Input) (key : List ℕ) (value : Value) (stands : output_at utxo input ≡ Some (output_to key value)) (outputs : List Output) (fee : ℕ) (mint : Mint) (signatures : List KeyWitness) (scripts : List Script) where
  pub spent_is : spent_outputs utxo (spending input outputs fee mint signatures scripts) ≡ output_to key value ∷ []
  spent_is = ap (λ (o : Option Output). option_to_list o ++ []) stands

  pub finds : finds_inputs utxo (spending input outputs fee mint signatures scripts) ≡ true
  finds = ap (λ (o : Option Output). is_some o && true) stands

  pub keys_are : keys_needed utxo (spending input outputs fee mint signatures scripts) ≡ key_hash_of key ∷ []
  keys_are = ap (λ (os : List Output). flat_map (λ o. key_hashes_in o.address.payment) os) spent_is

  pub no_scripts_locked : flat_map (λ o. script_hashes_in o.address.payment) (spent_outputs utxo (spending input outputs fee mint signatures scripts)) ≡ []
  no_scripts_locked = ap (λ (os : List Output). flat_map (λ o. script_hashes_in o.address.payment) os) spent_is

  pub preserved : ((asset : Asset) → sum_of asset (output_to key value ∷ []) +ℤ minted_amount asset mint ≡ sum_of asset outputs +ℤ amount_of_fee asset fee)
      → is_balanced utxo (spending input outputs fee mint signatures scripts) ≡ true
  preserved same = preserves_balanced utxo (spending input outputs fee mint signatures scripts) (λ asset. ap (λ (os : List Output). sum_of asset os +ℤ minted_amount asset mint) spent_is ∙ same asset)

-- the key signed
pub key_signed : (utxo : Utxo) (t : Transaction) (w : KeyWitness) (key : List ℕ) → keys_needed utxo t ≡ key_hash_of key ∷ [] → t.signatures ≡ w ∷ [] → w.key ≡ key → has_needed_keys utxo t ≡ true
key_signed utxo t w key needed signatures same = rw (needed, signatures, same, bytes_self (key_hash_of key)) refl

-- ---- the first nine conditions

module _ (verifies : Verifies) (utxo : Utxo) (input : Input) (outputs : List Output) (fee : ℕ) (mint : Mint) (signatures : List KeyWitness) (scripts : List Script) where
  abbrev pub this : Transaction
  this = spending input outputs fee mint signatures scripts

  -- what they come to for a transaction of this size
  pub record MeetsNine (size : ℕ) : Type 0 where
    pub size_is : size_of this ≡ size
    pub small : nat_le size 4096 ≡ true
    pub paid : nat_le (1 * size + 100) fee ≡ true
    pub found : finds_inputs utxo this ≡ true
    pub coins : outputs_reach_minimum (era_at small_params 1) this ≡ true
    pub network : outputs_are_on_network small_params this ≡ true
    pub balanced : is_balanced utxo this ≡ true
    pub free : output_at utxo (place (transaction_id_of this) 0) ≡ None
    pub alone : has_free_places utxo this ≡ not (is_some (output_at utxo (place (transaction_id_of this) 0))) && true

  pub nine : (size : ℕ) → MeetsNine size → (r : Reason) → reason_number r < 10 → passes verifies small_params utxo 1 this r ≡ true
  nine size m OutsideInterval low = refl
  nine size m NoInputs low = refl
  nine size m TooBig low = ap (λ (n : ℕ). nat_le n 4096) m.size_is ∙ m.small
  nine size m FeeTooSmall low = ap (λ (n : ℕ). nat_le (1 * n + 100) fee) m.size_is ∙ m.paid
  nine size m MissingInput low = m.found
  nine size m OutputTooSmall low = m.coins
  nine size m WrongNetwork low = m.network
  nine size m NotBalanced low = m.balanced
  nine size m OutputExists low = m.alone ∙ ap (λ (o : Option Output). not (is_some o) && true) m.free
  nine size m r low = absurd (omega (arith, low))
