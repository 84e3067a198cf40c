-- A payment as a worked example: what is answered to it, signed or not.
use Rattle.std.proofs.Common.{◌≡◌, ℕ, ◌+◌, ◌*◌, ◌<◌, ◌+ℤ◌, Bool, true, false, cond, not, ◌&&◌, ◌||◌, List, [], ◌∷◌, ◌++◌, map, Some, None, refl, ap, ◌∙◌, arith}
use Rattle.std.specs.Prelude.{nat_le}
use Rattle.std.specs.FinMap as finite
use Rattle.std.proofs.lemmas.Int.{ints}
use Rattle.model.specs.Value.{Asset, Ada, Named, minted_amount}
use Rattle.model.specs.Transaction.{Input, Output, KeyWitness, IsKeyWitness, input_cmp, transaction_id_of, size_of, key_hash_of}
use Rattle.model.specs.Signature.{Verifies}
use Rattle.model.specs.Utxo.{outputs_of, is_one_of, without, place, utxo_after, sum_of}
use Rattle.model.specs.Balance.{amount_of_fee, is_balanced}
use Rattle.model.specs.Rules.{Reason, OutsideInterval, NoInputs, TooBig, FeeTooSmall, BadSignature, MissingKeyWitness, MissingScript, ExtraScript, ScriptFails, reason_number, passes, reasons, reason_against, finds_inputs, keys_needed, scripts_needed, are_among}
use Rattle.model.specs.TransactionExamples.{small_params, coin_alone, output_to, first_place, first_utxo, payment, IsFresh}
use Rattle.model.proofs.ExampleSizes.{payment_size, cheap_size, unsigned_size}
use Rattle.model.proofs.Reasons.{none_fails, first_told}
use Rattle.model.proofs.Unspent.{inputs_total, same_to}
use Rattle.model.proofs.UtxoSums.{entries_without}
use Rattle.std.specs.FinMap.{put}
use Rattle.std.specs.FinMap.Entries.{where_key}
use Rattle.model.proofs.ExampleConditions.{at_first, fresh_place, finds, keys_are, no_scripts_locked, preserved, key_signed, nine}

module _ (key : List ℕ) where
  paid_in_full : (coin fee : ℕ) (signatures : List KeyWitness) → coin + fee ≡ 1200 → is_balanced (first_utxo key) (payment key coin fee signatures) ≡ true
  paid_in_full coin fee signatures sum = preserved (first_utxo key) first_place key (coin_alone 1200) (at_first key) (output_to key (coin_alone coin) ∷ []) fee [] signatures [] same
    where
      same : (asset : Asset) → sum_of asset (output_to key (coin_alone 1200) ∷ []) +ℤ minted_amount asset [] ≡ sum_of asset (output_to key (coin_alone coin) ∷ []) +ℤ amount_of_fee asset fee
      same Ada = omega (arith, ints)
      same (Named policy name) = refl

  payment_finds : (coin fee : ℕ) (signatures : List KeyWitness) → finds_inputs (first_utxo key) (payment key coin fee signatures) ≡ true
  payment_finds coin fee signatures = finds (first_utxo key) first_place key (coin_alone 1200) (at_first key) (output_to key (coin_alone coin) ∷ []) fee [] signatures []

  payment_keys : (coin fee : ℕ) (signatures : List KeyWitness) → keys_needed (first_utxo key) (payment key coin fee signatures) ≡ key_hash_of key ∷ []
  payment_keys coin fee signatures = keys_are (first_utxo key) first_place key (coin_alone 1200) (at_first key) (output_to key (coin_alone coin) ∷ []) fee [] signatures []

  payment_scripts : (coin fee : ℕ) (signatures : List KeyWitness) → scripts_needed (first_utxo key) (payment key coin fee signatures) ≡ []
  payment_scripts coin fee signatures = ap (λ (hashes : List (List ℕ)). hashes ++ []) (no_scripts_locked (first_utxo key) first_place key (coin_alone 1200) (at_first key) (output_to key (coin_alone coin) ∷ []) fee [] signatures [])

  -- the first nine conditions, signed or not
  payment_nine : (verifies : Verifies) (signatures : List KeyWitness) (size : ℕ) → size_of (payment key 910 290 signatures) ≡ size → nat_le size 4096 ≡ true → nat_le (1 * size + 100) 290 ≡ true → IsFresh (payment key 910 290 signatures)
      → (r : Reason) → reason_number r < 10 → passes verifies small_params (first_utxo key) 1 (payment key 910 290 signatures) r ≡ true
  payment_nine verifies signatures size is small paid fresh =
      nine verifies (first_utxo key) first_place (output_to key (coin_alone 910) ∷ []) 290 [] signatures [] size record {
        size_is = is;
        small = small;
        paid = paid;
        found = payment_finds 910 290 signatures;
        coins = refl;
        network = refl;
        balanced = paid_in_full 910 290 signatures refl;
        free = fresh_place key (payment key 910 290 signatures) fresh;
        alone = refl;
      }

module _ (verifies : Verifies) (w : KeyWitness) (is : IsKeyWitness w) where
  payment_meets : IsFresh (payment w.key 910 290 (w ∷ [])) → verifies w.key (transaction_id_of (payment w.key 910 290 (w ∷ []))) w.signature ≡ true
      → (r : Reason) → passes verifies small_params (first_utxo w.key) 1 (payment w.key 910 290 (w ∷ [])) r ≡ true
  payment_meets fresh good BadSignature = ap (λ (b : Bool). b && true) good
  payment_meets fresh good MissingKeyWitness = key_signed (first_utxo w.key) (payment w.key 910 290 (w ∷ [])) w w.key (payment_keys w.key 910 290 (w ∷ [])) refl refl
  payment_meets fresh good MissingScript = ap (λ (needed : List (List ℕ)). are_among needed []) (payment_scripts w.key 910 290 (w ∷ []))
  payment_meets fresh good ExtraScript = refl
  payment_meets fresh good ScriptFails = refl
  payment_meets fresh good r = payment_nine w.key verifies (w ∷ []) 190 (payment_size w is) refl refl fresh r (omega arith)

  pub payment_accepted : IsFresh (payment w.key 910 290 (w ∷ [])) → verifies w.key (transaction_id_of (payment w.key 910 290 (w ∷ []))) w.signature ≡ true
      → reason_against verifies small_params (first_utxo w.key) 1 (payment w.key 910 290 (w ∷ [])) ≡ None
  unfolding reason_against
  payment_accepted fresh good = none_fails (passes verifies small_params (first_utxo w.key) 1 (payment w.key 910 290 (w ∷ []))) reasons (payment_meets fresh good)

  -- a signature that is no good
  pub payment_badly_signed : IsFresh (payment w.key 910 290 (w ∷ [])) → verifies w.key (transaction_id_of (payment w.key 910 290 (w ∷ []))) w.signature ≡ false
      → reason_against verifies small_params (first_utxo w.key) 1 (payment w.key 910 290 (w ∷ [])) ≡ Some BadSignature
  unfolding reason_against
  payment_badly_signed fresh bad =
      first_told (passes verifies small_params (first_utxo w.key) 1 (payment w.key 910 290 (w ∷ []))) BadSignature (ap (λ (b : Bool). b && true) bad) (payment_nine w.key verifies (w ∷ []) 190 (payment_size w is) refl refl fresh)

  cheap_before : (r : Reason) → reason_number r < 4 → passes verifies small_params (first_utxo w.key) 1 (payment w.key 911 289 (w ∷ [])) r ≡ true
  cheap_before OutsideInterval low = refl
  cheap_before NoInputs low = refl
  cheap_before TooBig low = ap (λ (n : ℕ). nat_le n 4096) (cheap_size w is)
  cheap_before r low = absurd (omega (arith, low))

  -- a fee that is one too small
  pub payment_too_cheap : reason_against verifies small_params (first_utxo w.key) 1 (payment w.key 911 289 (w ∷ [])) ≡ Some FeeTooSmall
  unfolding reason_against
  payment_too_cheap = first_told (passes verifies small_params (first_utxo w.key) 1 (payment w.key 911 289 (w ∷ []))) FeeTooSmall (ap (λ (n : ℕ). nat_le (1 * n + 100) 289) (cheap_size w is)) cheap_before

module _ (verifies : Verifies) (key : List ℕ) where
  unsigned_before : IsFresh (payment key 910 290 []) → (r : Reason) → reason_number r < 11 → passes verifies small_params (first_utxo key) 1 (payment key 910 290 []) r ≡ true
  unsigned_before fresh BadSignature low = refl
  unsigned_before fresh r low = payment_nine key verifies [] 87 (unsigned_size key) refl refl fresh r (omega (arith, low))

  -- no signature
  pub payment_unsigned : IsFresh (payment key 910 290 []) → reason_against verifies small_params (first_utxo key) 1 (payment key 910 290 []) ≡ Some MissingKeyWitness
  unfolding reason_against
  payment_unsigned fresh =
      first_told (passes verifies small_params (first_utxo key) 1 (payment key 910 290 [])) MissingKeyWitness (ap (λ (needed : List (List ℕ)). are_among needed []) (payment_keys key 910 290 [])) (unsigned_before fresh)

-- what it leaves: the output that it makes, and nothing else
pub payment_leaves : (key : List ℕ) (signatures : List KeyWitness) → outputs_of (utxo_after (first_utxo key) (payment key 910 290 signatures)) ≡ output_to key (coin_alone 910) ∷ []
unfolding utxo_after
payment_leaves key signatures =
    let first : Input × Output = (first_place, output_to key (coin_alone 1200)) in
    let there : finite.entries (first_utxo key) ≡ first ∷ [] = finite.entries-from_sorted input_cmp (first ∷ []) tt in
    let gone : finite.entries (without (first_place ∷ []) (first_utxo key)) ≡ [] =
    entries_without (first_place ∷ []) (first_utxo key) ∙ ap (where_key input_cmp (λ x. not (is_one_of (first_place ∷ []) x))) there
    ∙ ap (λ (b : Bool). cond (not (b || false)) (first ∷ []) []) (same_to first_place) in
    let new : Input = place (transaction_id_of (payment key 910 290 signatures)) 0 in
    ap (map (λ (e : Input × Output). e.1))
    (finite.entries-insert inputs_total (without (first_place ∷ []) (first_utxo key)) new (output_to key (coin_alone 910)) ∙ ap (put input_cmp new (output_to key (coin_alone 910))) gone)
