-- Assets as worked examples: they are minted and taken away, and cannot come from nowhere, however large they are.
use Rattle.std.proofs.Common.{◌≡◌, ◌≢◌, ℕ, ◌+◌, ◌*◌, ◌<◌, pos, negsuc, ◌+ℤ◌, Bool, true, false, ◌&&◌, ◌||◌, List, [], ◌∷◌, ◌++◌, length, Some, None, refl, sym, ap, ◌∙◌, arith}
use Rattle.std.specs.Prelude.{nat_le, bytes_eq, if◌then◌else◌}
use Rattle.std.specs.List.{list_any}
use Rattle.std.proofs.lemmas.Bool.{false_from_ne_true}
use Rattle.std.proofs.lemmas.Int.{ints}
use Rattle.model.specs.Value.{Mint, Asset, Ada, Named, minted_amount}
use Rattle.model.specs.Script.{Script, script_hash_of}
use Rattle.model.specs.Transaction.{Input, Output, KeyWitness, Transaction, IsKeyWitness, transaction_id_of, size_of}
use Rattle.model.specs.Signature.{Verifies}
use Rattle.model.specs.Utxo.{Utxo, output_at, spent_outputs, place, utxo_after, sum_of}
use Rattle.model.specs.Balance.{amount_of_fee, is_balanced}
use Rattle.model.specs.Rules.{Reason, OutsideInterval, NoInputs, TooBig, FeeTooSmall, MissingInput, OutputTooSmall, WrongNetwork, NotBalanced, BadSignature, MissingKeyWitness, MissingScript, ExtraScript, ScriptFails, reason_number, passes, reasons, reason_against, scripts_needed, are_among, has_needed_keys, has_no_other_scripts, scripts_of}
use Rattle.model.specs.TransactionExamples.{small_params, coin_alone, unnamed, coin_and, output_to, first_place, first_utxo, two_halves, always, never, minting, burning, IsFresh}
use Rattle.model.proofs.Balances.{balanced_preserves}
use Rattle.model.proofs.ExampleSizes.{halves_size, minting_size, never_size, both_size, burning_size, bare_size}
use Rattle.model.proofs.Reasons.{none_fails, first_told}
use Rattle.model.proofs.Unspent.{after_new}
use Rattle.model.proofs.ExampleConditions.{bytes_self, bytes_apart, at_first, fresh_place, place_after, spent_is, finds, keys_are, no_scripts_locked, preserved, key_signed, nine}

-- ---- two halves of 2 ^ 64

module _ (verifies : Verifies) (w : KeyWitness) (is : IsKeyWitness w) (policy : List ℕ) (long : length policy ≡ 32) where
  halves_spent : spent_outputs (first_utxo w.key) (two_halves w policy) ≡ output_to w.key (coin_alone 1200) ∷ []
  halves_spent =
      let half : Output = output_to w.key (coin_and 300 policy 9223372036854775808) in
      spent_is (first_utxo w.key) first_place w.key (coin_alone 1200) (at_first w.key) (half ∷ half ∷ []) 600 [] (w ∷ []) []

  -- what two outputs hold together of an asset
  twice : (b : Bool) → b ≡ true → pos 0 ≡ (if b then pos 9223372036854775808 +ℤ pos 0 else pos 0) +ℤ pos 0 +ℤ ((if b then pos 9223372036854775808 +ℤ pos 0 else pos 0) +ℤ pos 0 +ℤ pos 0) +ℤ pos 0 → ⊥
  twice true is e = absurd cc
  twice false is e = absurd cc

  halves_unbalanced : is_balanced (first_utxo w.key) (two_halves w policy) ≡ false
  halves_unbalanced = false_from_ne_true (is_balanced (first_utxo w.key) (two_halves w policy))
      (λ balanced. twice (bytes_eq policy policy) (bytes_self policy)
      (sym (ap (λ (os : List Output). sum_of (Named policy []) os +ℤ pos 0) halves_spent) ∙ balanced_preserves (first_utxo w.key) (two_halves w policy) balanced (Named policy [])))

  halves_before : (r : Reason) → reason_number r < 8 → passes verifies small_params (first_utxo w.key) 1 (two_halves w policy) r ≡ true
  halves_before OutsideInterval low = refl
  halves_before NoInputs low = refl
  halves_before TooBig low = ap (λ (n : ℕ). nat_le n 4096) (halves_size w is policy long)
  halves_before FeeTooSmall low = ap (λ (n : ℕ). nat_le (1 * n + 100) 600) (halves_size w is policy long)
  halves_before MissingInput low =
      let half : Output = output_to w.key (coin_and 300 policy 9223372036854775808) in
      finds (first_utxo w.key) first_place w.key (coin_alone 1200) (at_first w.key) (half ∷ half ∷ []) 600 [] (w ∷ []) []
  halves_before OutputTooSmall low = refl
  halves_before WrongNetwork low = refl
  halves_before r low = absurd (omega (arith, low))

  pub halves_refused : reason_against verifies small_params (first_utxo w.key) 1 (two_halves w policy) ≡ Some NotBalanced
  unfolding reason_against
  halves_refused = first_told (passes verifies small_params (first_utxo w.key) 1 (two_halves w policy)) NotBalanced halves_unbalanced halves_before

-- ---- minting

module _ (verifies : Verifies) (w : KeyWitness) (script : Script) (scripts : List Script) where
  abbrev made : List Output
  made = output_to w.key (coin_and 800 (script_hash_of script) 5) ∷ []

  mint_balanced : is_balanced (first_utxo w.key) (minting w script scripts) ≡ true
  mint_balanced = preserved (first_utxo w.key) first_place w.key (coin_alone 1200) (at_first w.key) made 400 (unnamed (script_hash_of script) (pos 5)) (w ∷ []) scripts same
    where
      same : (asset : Asset) → sum_of asset (output_to w.key (coin_alone 1200) ∷ []) +ℤ minted_amount asset (unnamed (script_hash_of script) (pos 5)) ≡ sum_of asset made +ℤ amount_of_fee asset 400
      same Ada = refl
      same (Named policy name) = omega (arith, ints)

  mint_nine : (size : ℕ) → size_of (minting w script scripts) ≡ size → nat_le size 4096 ≡ true → nat_le (1 * size + 100) 400 ≡ true → IsFresh (minting w script scripts)
      → (r : Reason) → reason_number r < 10 → passes verifies small_params (first_utxo w.key) 1 (minting w script scripts) r ≡ true
  mint_nine size is small paid fresh =
      nine verifies (first_utxo w.key) first_place made 400 (unnamed (script_hash_of script) (pos 5)) (w ∷ []) scripts size record {
        size_is = is;
        small = small;
        paid = paid;
        found = finds (first_utxo w.key) first_place w.key (coin_alone 1200) (at_first w.key) made 400 (unnamed (script_hash_of script) (pos 5)) (w ∷ []) scripts;
        coins = refl;
        network = refl;
        balanced = mint_balanced;
        free = fresh_place w.key (minting w script scripts) fresh;
        alone = refl;
      }

  mint_signed : has_needed_keys (first_utxo w.key) (minting w script scripts) ≡ true
  mint_signed = key_signed (first_utxo w.key) (minting w script scripts) w w.key
      (keys_are (first_utxo w.key) first_place w.key (coin_alone 1200) (at_first w.key) made 400 (unnamed (script_hash_of script) (pos 5)) (w ∷ []) scripts) refl refl

  -- the policy's script is the only one that is needed
  mint_needs : scripts_needed (first_utxo w.key) (minting w script scripts) ≡ script_hash_of script ∷ []
  mint_needs = ap (λ (hashes : List (List ℕ)). hashes ++ script_hash_of script ∷ [])
      (no_scripts_locked (first_utxo w.key) first_place w.key (coin_alone 1200) (at_first w.key) made 400 (unnamed (script_hash_of script) (pos 5)) (w ∷ []) scripts)

one_among : (hash : List ℕ) (others : List (List ℕ)) → are_among (hash ∷ []) (hash ∷ others) ≡ true
one_among hash others = ap (λ (b : Bool). (b || list_any (λ h. bytes_eq h hash) others) && true) (bytes_self hash)

-- the first conditions of scripts, where the policy's script comes first
mint_twelve : (verifies : Verifies) (w : KeyWitness) (script : Script) (others : List Script) (size : ℕ) → size_of (minting w script (script ∷ others)) ≡ size → nat_le size 4096 ≡ true → nat_le (1 * size + 100) 400 ≡ true
    → IsFresh (minting w script (script ∷ others)) → verifies w.key (transaction_id_of (minting w script (script ∷ others))) w.signature ≡ true
    → (r : Reason) → reason_number r < 13 → passes verifies small_params (first_utxo w.key) 1 (minting w script (script ∷ others)) r ≡ true
mint_twelve verifies w script others size is small paid fresh good BadSignature low = ap (λ (b : Bool). b && true) good
mint_twelve verifies w script others size is small paid fresh good MissingKeyWitness low = mint_signed verifies w script (script ∷ others)
mint_twelve verifies w script others size is small paid fresh good MissingScript low =
    ap (λ (needed : List (List ℕ)). are_among needed (scripts_of (minting w script (script ∷ others)))) (mint_needs verifies w script (script ∷ others)) ∙ one_among (script_hash_of script) (scripts_of (minting w script others))
mint_twelve verifies w script others size is small paid fresh good r low = mint_nine verifies w script (script ∷ others) size is small paid fresh r (omega (arith, low))

-- only that script is supplied
mint_alone : (w : KeyWitness) (verifies : Verifies) (script : Script) → has_no_other_scripts (first_utxo w.key) (minting w script (script ∷ [])) ≡ true
mint_alone w verifies script = ap (are_among (script_hash_of script ∷ [])) (mint_needs verifies w script (script ∷ [])) ∙ one_among (script_hash_of script) []

module _ (verifies : Verifies) (w : KeyWitness) (is : IsKeyWitness w) where
  mint_meets : IsFresh (minting w always (always ∷ [])) → verifies w.key (transaction_id_of (minting w always (always ∷ []))) w.signature ≡ true
      → (r : Reason) → passes verifies small_params (first_utxo w.key) 1 (minting w always (always ∷ [])) r ≡ true
  mint_meets fresh good ExtraScript = mint_alone w verifies always
  mint_meets fresh good ScriptFails = refl
  mint_meets fresh good r = mint_twelve verifies w always [] 273 (minting_size w is) refl refl fresh good r (omega arith)

  pub mint_accepted : IsFresh (minting w always (always ∷ [])) → verifies w.key (transaction_id_of (minting w always (always ∷ []))) w.signature ≡ true
      → reason_against verifies small_params (first_utxo w.key) 1 (minting w always (always ∷ [])) ≡ None
  unfolding reason_against
  mint_accepted fresh good = none_fails (passes verifies small_params (first_utxo w.key) 1 (minting w always (always ∷ []))) reasons (mint_meets fresh good)

  -- one more script
  pub mint_with_another : IsFresh (minting w always (always ∷ never ∷ [])) → verifies w.key (transaction_id_of (minting w always (always ∷ never ∷ []))) w.signature ≡ true
      → script_hash_of always ≢ script_hash_of never → reason_against verifies small_params (first_utxo w.key) 1 (minting w always (always ∷ never ∷ [])) ≡ Some ExtraScript
  unfolding reason_against
  mint_with_another fresh good apart =
      let extra : has_no_other_scripts (first_utxo w.key) (minting w always (always ∷ never ∷ [])) ≡ false =
      ap (are_among (script_hash_of always ∷ script_hash_of never ∷ [])) (mint_needs verifies w always (always ∷ never ∷ []))
      ∙ rw (bytes_self (script_hash_of always), bytes_apart (script_hash_of always) (script_hash_of never) apart) refl in
      first_told (passes verifies small_params (first_utxo w.key) 1 (minting w always (always ∷ never ∷ []))) ExtraScript extra (mint_twelve verifies w always (never ∷ []) 276 (both_size w is) refl refl fresh good)

  never_before : IsFresh (minting w never (never ∷ [])) → verifies w.key (transaction_id_of (minting w never (never ∷ []))) w.signature ≡ true
      → (r : Reason) → reason_number r < 14 → passes verifies small_params (first_utxo w.key) 1 (minting w never (never ∷ [])) r ≡ true
  never_before fresh good ExtraScript low = mint_alone w verifies never
  never_before fresh good r low = mint_twelve verifies w never [] 273 (never_size w is) refl refl fresh good r (omega (arith, low))

  -- a script that does not hold
  pub mint_by_never : IsFresh (minting w never (never ∷ [])) → verifies w.key (transaction_id_of (minting w never (never ∷ []))) w.signature ≡ true
      → reason_against verifies small_params (first_utxo w.key) 1 (minting w never (never ∷ [])) ≡ Some ScriptFails
  unfolding reason_against
  mint_by_never fresh good = first_told (passes verifies small_params (first_utxo w.key) 1 (minting w never (never ∷ []))) ScriptFails refl (never_before fresh good)

-- ---- taking away again

-- 5 and -5 of what a policy has under a name, whatever the policy and the name
cancel : (b c : Bool) → (if b then (if c then pos 5 else pos 0) +ℤ pos 0 else pos 0) +ℤ pos 0 +ℤ pos 0 +ℤ ((if b then (if c then negsuc 4 else pos 0) +ℤ pos 0 else pos 0) +ℤ pos 0) ≡ pos 0
cancel true true = refl
cancel true false = refl
cancel false true = refl
cancel false false = refl

module _ (verifies : Verifies) (w v : KeyWitness) (same_key : v.key ≡ w.key) (scripts : List Script) where
  abbrev minted : Transaction
  minted = minting w always (always ∷ [])

  abbrev then_utxo : Utxo
  then_utxo = utxo_after (first_utxo w.key) (minting w always (always ∷ []))

  abbrev burnt : Mint
  burnt = unnamed (script_hash_of always) (negsuc 4)

  abbrev there : Input
  there = place (transaction_id_of (minting w always (always ∷ []))) 0

  stands : output_at then_utxo there ≡ Some (output_to w.key (coin_and 800 (script_hash_of always) 5))
  stands = after_new (first_utxo w.key) (minting w always (always ∷ [])) 0 (output_to w.key (coin_and 800 (script_hash_of always) 5)) refl

  burn_balanced : is_balanced then_utxo (burning minted v scripts) ≡ true
  burn_balanced = preserved then_utxo there w.key (coin_and 800 (script_hash_of always) 5) stands (output_to v.key (coin_alone 400) ∷ []) 400 burnt (v ∷ []) scripts same
    where
      same : (asset : Asset) → sum_of asset (output_to w.key (coin_and 800 (script_hash_of always) 5) ∷ []) +ℤ minted_amount asset burnt ≡ sum_of asset (output_to v.key (coin_alone 400) ∷ []) +ℤ amount_of_fee asset 400
      same Ada = refl
      same (Named policy name) = cancel (bytes_eq policy (script_hash_of always)) (bytes_eq name [])

  -- the first eleven conditions
  burn_eleven : (size : ℕ) → size_of (burning minted v scripts) ≡ size → nat_le size 4096 ≡ true → nat_le (1 * size + 100) 400 ≡ true
      → transaction_id_of (burning minted v scripts) ≢ transaction_id_of minted → verifies v.key (transaction_id_of (burning minted v scripts)) v.signature ≡ true
      → (r : Reason) → reason_number r < 12 → passes verifies small_params then_utxo 1 (burning minted v scripts) r ≡ true
  burn_eleven size is small paid fresh good BadSignature low = ap (λ (b : Bool). b && true) good
  burn_eleven size is small paid fresh good MissingKeyWitness low = key_signed then_utxo (burning minted v scripts) v w.key
      (keys_are then_utxo there w.key (coin_and 800 (script_hash_of always) 5) stands (output_to v.key (coin_alone 400) ∷ []) 400 burnt (v ∷ []) scripts) refl same_key
  burn_eleven size is small paid fresh good r low =
      nine verifies then_utxo there (output_to v.key (coin_alone 400) ∷ []) 400 burnt (v ∷ []) scripts size record {
        size_is = is;
        small = small;
        paid = paid;
        found = finds then_utxo there w.key (coin_and 800 (script_hash_of always) 5) stands (output_to v.key (coin_alone 400) ∷ []) 400 burnt (v ∷ []) scripts;
        coins = refl;
        network = refl;
        balanced = burn_balanced;
        free = place_after w.key minted (burning minted v scripts) refl fresh;
        alone = refl;
      } r (omega (arith, low))

  burn_needs : scripts_needed then_utxo (burning minted v scripts) ≡ script_hash_of always ∷ []
  burn_needs = ap (λ (hashes : List (List ℕ)). hashes ++ script_hash_of always ∷ [])
      (no_scripts_locked then_utxo there w.key (coin_and 800 (script_hash_of always) 5) stands (output_to v.key (coin_alone 400) ∷ []) 400 burnt (v ∷ []) scripts)

module _ (verifies : Verifies) (w v : KeyWitness) (same_key : v.key ≡ w.key) (is : IsKeyWitness v) where
  abbrev before : Transaction
  before = minting w always (always ∷ [])

  burn_meets : transaction_id_of (burning before v (always ∷ [])) ≢ transaction_id_of before → verifies v.key (transaction_id_of (burning before v (always ∷ []))) v.signature ≡ true
      → (r : Reason) → passes verifies small_params (utxo_after (first_utxo w.key) before) 1 (burning before v (always ∷ [])) r ≡ true
  burn_meets fresh good MissingScript =
      ap (λ (needed : List (List ℕ)). are_among needed (script_hash_of always ∷ [])) (burn_needs verifies w v same_key (always ∷ [])) ∙ one_among (script_hash_of always) []
  burn_meets fresh good ExtraScript = ap (are_among (script_hash_of always ∷ [])) (burn_needs verifies w v same_key (always ∷ [])) ∙ one_among (script_hash_of always) []
  burn_meets fresh good ScriptFails = refl
  burn_meets fresh good r = burn_eleven verifies w v same_key (always ∷ []) 234 (burning_size v is before) refl refl fresh good r (omega arith)

  pub burn_accepted : transaction_id_of (burning before v (always ∷ [])) ≢ transaction_id_of before → verifies v.key (transaction_id_of (burning before v (always ∷ []))) v.signature ≡ true
      → reason_against verifies small_params (utxo_after (first_utxo w.key) before) 1 (burning before v (always ∷ [])) ≡ None
  unfolding reason_against
  burn_accepted fresh good = none_fails (passes verifies small_params (utxo_after (first_utxo w.key) before) 1 (burning before v (always ∷ []))) reasons (burn_meets fresh good)

  -- the policy's script is not supplied
  pub burn_without : transaction_id_of (burning before v []) ≢ transaction_id_of before → verifies v.key (transaction_id_of (burning before v [])) v.signature ≡ true
      → reason_against verifies small_params (utxo_after (first_utxo w.key) before) 1 (burning before v []) ≡ Some MissingScript
  unfolding reason_against
  burn_without fresh good = first_told (passes verifies small_params (utxo_after (first_utxo w.key) before) 1 (burning before v [])) MissingScript
      (ap (λ (needed : List (List ℕ)). are_among needed []) (burn_needs verifies w v same_key [])) (burn_eleven verifies w v same_key [] 229 (bare_size v is before) refl refl fresh good)
