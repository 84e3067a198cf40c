-- Parts without a fault have a text.
use Rattle.std.proofs.Common.{◌≡◌, ℕ, suc, ◌+◌, ◌^◌, ◌<◌, ◌≤◌, max, Option, Some, None, List, [], ◌∷◌, ◌++◌, length, map, refl, sym, ap, subst, append-nil, arith}
use Rattle.std.specs.Prelude.{IfSome}
use Rattle.std.specs.Cmp.Lexicographic.{slice_cmp}
use Rattle.std.specs.List.{AllByRecursion}
use Rattle.std.specs.List.Sorted.{IsStrictlySortedBy}
use Rattle.std.specs.Ordering.{nat_cmp}
use Rattle.std.specs.declared.cmp.Ordering.{Ordering}
use Rattle.std.specs.declared.cmp.Ordering.TheVariants.{Less}
use Rattle.std.proofs.lemmas.List.{length-map}
use Rattle.model.specs.Cbor.{Item, Unsigned, head, text_of, nesting, items_of, items_count, items_nesting, pairs_of, pairs_count, pairs_nesting, array_of, map_of, HasText, IsInRange, PairsAreInRange, PairsHaveRisingKeys, HasRisingKeys, IsBeforeFirst}
use Rattle.model.specs.Script.{Script, item_of_script, script_hash_of, IsScript}
use Rattle.model.specs.Value.{Mint, item_of_assets, item_of_number}
use Rattle.model.specs.Transaction.{Input, Output, KeyWitness, Transaction, item_of_input, item_of_output, item_of_witness, optional_entry, unless_empty, item_of_body, item_of_witnesses, item_of_transaction, IsInput, IsOutput, IsKeyWitness, IsTransaction, witness_cmp, script_cmp}
use Rattle.cbor.proofs.ForCallers.{Fits, AllFit, Field}
use Rattle.tx.specs.Body.{Body, body_item, optional_entries}
use Rattle.tx.specs.Making.{parts_of, AreSaid, AreSound, HasNumbers, transaction_of_parts}
use Rattle.tx.specs.Parts.{Parts}
use Rattle.tx.specs.Said.{IsSaidInput, IsSaidOutput, IsSaidWitness, IsSaidScript}
use Rattle.tx.specs.View.{input_of, witness_of}
use Rattle.tx.specs.WitnessesView.{signatures_item, scripts_item, witness_entries}
use Rattle.tx.specs.declared.input.Input.{Input as CodeInput}
use Rattle.tx.specs.declared.key_witness.KeyWitness.{KeyWitness as CodeKeyWitness}
use Rattle.tx.specs.declared.parts.TxParts.{TxParts}
use Rattle.tx.proofs.Depths.{some_nesting, beside, body_nests}
use Rattle.tx.proofs.PartsSaid.{input_said, witness_said}

-- ---- lists of parts that have texts

module _ {A : Type 0} (item_of : A → Item) (IsSaid : A → Type 0) (text : (x : A) → IsSaid x → HasText (item_of x)) where
  all_fit : (xs : List A) → AllByRecursion IsSaid xs → AllFit (items_of (map item_of xs))
  all_fit [] said = record { in_range = tt; rising = tt }
  all_fit (x ∷ xs) said =
      let here = text x said.0 in
      let others = all_fit xs said.1 in
      record { in_range = (here.in_range, others.in_range); rising = (here.rising, others.rising) }

  counted : (xs : List A) → items_count (items_of (map item_of xs)) ≡ length xs
  counted [] = refl
  counted (x ∷ xs) = ap suc (counted xs)

  -- the array of them
  array_fits : (xs : List A) → length xs < 2 ^ 64 → AllByRecursion IsSaid xs → Fits (array_of (map item_of xs))
  array_fits xs few said =
      let fit = all_fit xs said in
      record { in_range = (omega (arith, few, counted xs), fit.in_range); rising = fit.rising }

-- what follows from each of some facts
weaker : {A : Type 0} (P Q : A → Type 0) → ((x : A) → P x → Q x) → (xs : List A) → AllByRecursion P xs → AllByRecursion Q xs
weaker P Q h [] all = tt
weaker P Q h (x ∷ xs) all = (h x all.0, weaker P Q h xs all.1)

pub inputs_said : (is : List CodeInput) → AllByRecursion IsSaidInput (map input_of is)
inputs_said [] = tt
inputs_said (i ∷ is) = (input_said i, inputs_said is)

pub witnesses_said : (ws : List CodeKeyWitness) → AllByRecursion IsSaidWitness (map witness_of ws)
witnesses_said [] = tt
witnesses_said (w ∷ ws) = (witness_said w, witnesses_said ws)

-- at most two deep
flat_bound : {A : Type 0} (item_of : A → Item) → ((a : A) → nesting (item_of a) ≡ 2) → (xs : List A) → items_nesting (items_of (map item_of xs)) ≤ 2
flat_bound item_of flat [] = omega arith
flat_bound item_of flat (x ∷ xs) = omega (arith, flat x, flat_bound item_of flat xs)

-- ---- orders of keys

module _ {A K : Type 0} (cmp : K → K → Ordering) (f : A → K) where
  below : (x : A) (xs : List A) → AllByRecursion (λ k. cmp (f x) k ≡ Less) (map f xs) → AllByRecursion (λ y. cmp (f x) (f y) ≡ Less) xs
  below x [] all = tt
  below x (y ∷ ys) all = (all.0, below x ys all.1)

  above : (x : A) (xs : List A) → AllByRecursion (λ y. cmp (f x) (f y) ≡ Less) xs → AllByRecursion (λ k. cmp (f x) k ≡ Less) (map f xs)
  above x [] all = tt
  above x (y ∷ ys) all = (all.0, above x ys all.1)

  -- what rises by its keys, from the keys
  pub rise_by_keys : (xs : List A) → IsStrictlySortedBy cmp (map f xs) → IsStrictlySortedBy (λ a b. cmp (f a) (f b)) xs
  unfolding IsStrictlySortedBy
  rise_by_keys [] up = tt
  rise_by_keys (x ∷ xs) up = (below x xs up.0, rise_by_keys xs up.1)

  -- and the keys
  pub keys_rise_by : (xs : List A) → IsStrictlySortedBy (λ a b. cmp (f a) (f b)) xs → IsStrictlySortedBy cmp (map f xs)
  unfolding IsStrictlySortedBy
  keys_rise_by [] up = tt
  keys_rise_by (x ∷ xs) up = (above x xs up.0, keys_rise_by xs up.1)

-- ---- entries

-- entries that have texts: each key is before the first that follows
record EntriesFit (fs : List Field) : Type 0 where
  in_range : PairsAreInRange (pairs_of fs)
  rising : PairsHaveRisingKeys (pairs_of fs)

abbrev IsBefore : ℕ → List Field → Type 0
IsBefore key fs = IsBeforeFirst (Unsigned key) (pairs_of fs)

one_entry : (key : ℕ) (item : Item) (fs : List Field) → key < 24 → Fits item → IsBefore key fs → EntriesFit fs → EntriesFit ((Unsigned key, item) ∷ fs)
one_entry key item fs low fits before more =
    record { in_range = (omega (arith, low), fits.in_range, more.in_range); rising = (tt, fits.rising, before, more.rising) }

optional_fits : (key : ℕ) (number : Option ℕ) (fs : List Field) → key < 24 → IfSome number (λ n. n < 2 ^ 64) → IsBefore key fs → EntriesFit fs → EntriesFit (optional_entry key number ++ fs)
optional_fits key None fs low fits before more = more
optional_fits key (Some n) fs low fits before more = one_entry key (Unsigned n) fs low (record { in_range = fits; rising = tt }) before more

list_fits : {X : Type 0} (key : ℕ) (item : List X → Item) (xs : List X) (fs : List Field) → key < 24 → Fits (item xs) → IsBefore key fs → EntriesFit fs → EntriesFit (unless_empty key item xs ++ fs)
list_fits key item [] fs low fits before more = more
list_fits key item (x ∷ xs) fs low fits before more = one_entry key (item (x ∷ xs)) fs low fits before more

before_optional : (least key : ℕ) (number : Option ℕ) (fs : List Field) → slice_cmp nat_cmp (head 0 least) (head 0 key) ≡ Less → IsBefore least fs → IsBefore least (optional_entry key number ++ fs)
before_optional least key None fs less more = more
before_optional least key (Some n) fs less more = less

before_list : {X : Type 0} (least key : ℕ) (item : List X → Item) (xs : List X) → slice_cmp nat_cmp (head 0 least) (head 0 key) ≡ Less → IsBefore least (unless_empty key item xs)
before_list least key item [] less = tt
before_list least key item (x ∷ xs) less = less

optional_few : (key : ℕ) (number : Option ℕ) (fs : List Field) → pairs_count (pairs_of (optional_entry key number ++ fs)) ≤ suc (pairs_count (pairs_of fs))
optional_few key None fs = omega arith
optional_few key (Some n) fs = omega arith

list_few : {X : Type 0} (key : ℕ) (item : List X → Item) (xs : List X) (fs : List Field) → pairs_count (pairs_of (unless_empty key item xs ++ fs)) ≤ suc (pairs_count (pairs_of fs))
list_few key item [] fs = omega arith
list_few key item (x ∷ xs) fs = omega arith

map_fits : (fs : List Field) → pairs_count (pairs_of fs) < 2 ^ 64 → EntriesFit fs → Fits (map_of fs)
map_fits fs few fit = record { in_range = (few, fit.in_range); rising = fit.rising }

no_entries : EntriesFit []
no_entries = record { in_range = tt; rising = tt }

-- the keys of a body and a witness set
keys_less : (slice_cmp nat_cmp (head 0 0) (head 0 1) ≡ Less) × (slice_cmp nat_cmp (head 0 1) (head 0 2) ≡ Less) × (slice_cmp nat_cmp (head 0 2) (head 0 3) ≡ Less) × (slice_cmp nat_cmp (head 0 2) (head 0 8) ≡ Less)
    × (slice_cmp nat_cmp (head 0 2) (head 0 9) ≡ Less) × (slice_cmp nat_cmp (head 0 3) (head 0 8) ≡ Less) × (slice_cmp nat_cmp (head 0 3) (head 0 9) ≡ Less) × (slice_cmp nat_cmp (head 0 8) (head 0 9) ≡ Less)
unfolding head
keys_less = (refl, refl, refl, refl, refl, refl, refl, refl)

-- ---- the transaction

module _ (p : Parts) (sound : AreSound p) (numbers : HasNumbers p) (inputs : AllByRecursion IsSaidInput p.inputs) (signatures : AllByRecursion IsSaidWitness p.signatures) (few_inputs : length p.inputs < 2 ^ 64) (few_signatures : length p.signatures < 2 ^ 64) (few_scripts : length p.scripts < 2 ^ 64) where
  abbrev said : AreSaid p
  said = sound.said

  body_fits : Fits (item_of_body (transaction_of_parts p))
  body_fits =
      let less = keys_less in
      let mint : EntriesFit (unless_empty 9 (item_of_assets item_of_number) p.mint) = subst EntriesFit (append-nil (unless_empty 9 (item_of_assets item_of_number) p.mint))
      (list_fits 9 (item_of_assets item_of_number) p.mint [] (omega arith) (record { in_range = said.mint_text.in_range; rising = said.mint_text.rising }) tt no_entries) in
      let start = optional_fits 8 p.interval.start _ (omega arith) numbers.start (before_list 8 9 (item_of_assets item_of_number) p.mint less.7) mint in
      let end = optional_fits 3 p.interval.end _ (omega arith) numbers.end (before_optional 3 8 p.interval.start _ less.5 (before_list 3 9 (item_of_assets item_of_number) p.mint less.6)) start in
      let before = before_optional 2 3 p.interval.end _ less.2 (before_optional 2 8 p.interval.start _ less.3 (before_list 2 9 (item_of_assets item_of_number) p.mint less.4)) in
      let fee = one_entry 2 (Unsigned p.fee) _ (omega arith) (record { in_range = numbers.fee; rising = tt }) before end in
      let count = sound.outputs_count in
      let outputs = one_entry 1 (array_of (map item_of_output p.outputs)) _ (omega arith) (array_fits item_of_output IsSaidOutput (λ o s. s.has_text) p.outputs (omega (arith, count)) said.outputs) less.1 fee in
      let all = one_entry 0 (array_of (map item_of_input p.inputs)) _ (omega arith) (array_fits item_of_input IsSaidInput (λ i s. s.has_text) p.inputs few_inputs inputs) less.0 outputs in
      let few_end = optional_few 3 p.interval.end (optional_entry 8 p.interval.start ++ unless_empty 9 (item_of_assets item_of_number) p.mint) in
      let few_start = optional_few 8 p.interval.start (unless_empty 9 (item_of_assets item_of_number) p.mint) in
      let few_mint = list_few 9 (item_of_assets item_of_number) p.mint [] in
      let just = ap (λ (fs : List Field). pairs_count (pairs_of fs)) (append-nil (unless_empty 9 (item_of_assets item_of_number) p.mint)) in
      map_fits _ (omega (arith, few_end, few_start, few_mint, just)) all

  witnesses_fit : Fits (item_of_witnesses (transaction_of_parts p))
  witnesses_fit =
      let less = keys_less in
      let scripts : EntriesFit (unless_empty 1 scripts_item p.scripts) = subst EntriesFit (append-nil (unless_empty 1 scripts_item p.scripts))
      (list_fits 1 scripts_item p.scripts [] (omega arith) (array_fits item_of_script IsSaidScript (λ s t. t.has_text) p.scripts few_scripts said.scripts) tt no_entries) in
      let all = list_fits 0 signatures_item p.signatures _ (omega arith) (array_fits item_of_witness IsSaidWitness (λ w t. t.has_text) p.signatures few_signatures signatures) (before_list 0 1 scripts_item p.scripts less.0) scripts in
      let few = list_few 0 signatures_item p.signatures (unless_empty 1 scripts_item p.scripts) in
      let few_more = list_few 1 scripts_item p.scripts [] in
      let just = ap (λ (fs : List Field). pairs_count (pairs_of fs)) (append-nil (unless_empty 1 scripts_item p.scripts)) in
      map_fits _ (omega (arith, few, few_more, just)) all

  abbrev whole_body : Body
  whole_body = record { inputs = p.inputs; outputs = p.outputs; fee = p.fee; end = p.interval.end; start = p.interval.start; mint = p.mint }

  body_low : nesting (item_of_body (transaction_of_parts p)) ≤ 63
  body_low =
      let is = items_nesting (items_of (map item_of_input p.inputs)) in
      let os = items_nesting (items_of (map item_of_output p.outputs)) in
      let m = nesting (item_of_assets item_of_number p.mint) in
      let whole = body_nests whole_body is os m refl refl refl in
      let low = flat_bound item_of_input (λ i. refl) p.inputs in
      let outputs = said.outputs_nest in
      let mint = said.mint_nests in
      omega (arith, whole, low, outputs, mint)

  entry_low : {X : Type 0} (key : ℕ) (item : List X → Item) (xs : List X) (depth : ℕ) → nesting (item xs) ≤ depth → pairs_nesting (pairs_of (unless_empty key item xs)) ≤ depth
  entry_low key item [] depth low = omega arith
  entry_low key item (x ∷ xs) depth low = omega (arith, low, some_nesting (item (x ∷ xs)))

  witnesses_low : nesting (item_of_witnesses (transaction_of_parts p)) ≤ 63
  witnesses_low =
      let both = beside (unless_empty 0 signatures_item p.signatures) (unless_empty 1 scripts_item p.scripts) in
      let flat = flat_bound item_of_witness (λ w. refl) p.signatures in
      let first = entry_low 0 signatures_item p.signatures 62 (omega (arith, flat)) in
      let deep = said.scripts_nest in
      let second = entry_low 1 scripts_item p.scripts 62 (omega (arith, deep)) in
      omega (arith, both, first, second)

  -- the text of the whole
  pub made_text : HasText (item_of_transaction (transaction_of_parts p))
  made_text =
      let b = body_fits in
      let w = witnesses_fit in
      record {
        in_range = (omega arith, (b.in_range, (w.in_range, (tt, tt))));
        rising = (b.rising, (w.rising, (tt, tt)));
        nests = omega (arith, body_low, witnesses_low);
      }

  -- and its shape
  pub made_is : IsTransaction (transaction_of_parts p)
  made_is = record {
    inputs = weaker IsSaidInput IsInput (λ i s. s.is_input) p.inputs inputs;
    inputs_rise = sound.inputs_rise;
    outputs = weaker IsSaidOutput IsOutput (λ o s. s.is_output) p.outputs said.outputs;
    outputs_count = sound.outputs_count;
    mint = said.mint;
    signatures = weaker IsSaidWitness IsKeyWitness (λ w s. s.is_witness) p.signatures signatures;
    signatures_rise = rise_by_keys (slice_cmp nat_cmp) (λ w. w.key) p.signatures sound.keys_rise;
    scripts = weaker IsSaidScript IsScript (λ s t. t.is_script) p.scripts said.scripts;
    scripts_rise = rise_by_keys (slice_cmp nat_cmp) script_hash_of p.scripts sound.hashes_rise;
  }
