-- What making a transaction of parts promises, from what is known of the parts in order.
use Rattle.std.proofs.Common.{◌≡◌, ℕ, ◌<◌, ◌≤◌, Bool, cond, List, length, map, refl, sym, ap, subst, ◌∙◌, arith}
use Rattle.std.specs.Prelude.{bytes_eq}
use Rattle.std.specs.Cmp.Lexicographic.{slice_cmp}
use Rattle.std.specs.List.{count_by}
use Rattle.std.specs.List.Sorted.{IsPermutation, IsStrictlySortedBy}
use Rattle.std.specs.Ordering.{nat_cmp}
use Rattle.std.specs.declared.cmp.Ordering.{Ordering}
use Rattle.std.proofs.lemmas.List.Sorted.{sum_by-IsPermutation, IsPermutation-map, IsPermutation-sym}
use Rattle.model.specs.Cbor.{nesting}
use Rattle.model.specs.Script.{Script, item_of_script, script_hash_of}
use Rattle.model.specs.Transaction.{Input, KeyWitness, Transaction, SpellsTransaction}
use Rattle.timelock.proofs.ForCallers.{IsWithin}
use Rattle.value.proofs.ForCallers.{none_bad, any_moved}
use Rattle.tx.specs.Making.{AreSamePartsAs, AreSound, transaction_of_parts}
use Rattle.tx.specs.Parts.{Parts, IsTxOf, keys_of, hashes_of, HasRepeatedInput, HasManyOutputs, HasRepeatedKey, HasRepeatedScript, HasDeepScript, AreEndsSound, IsPartsFault, IfAtFault}
use Rattle.tx.specs.Repeats.{IsRepeated, IsFirstRepeated}
use Rattle.tx.specs.View.{input_of}
use Rattle.tx.specs.declared.parts_fault.PartsFault.{PartsFault}
use Rattle.tx.specs.declared.parts_fault.PartsFault.TheVariants as faults
use Rattle.tx.proofs.Faults.{no_input_repeated, no_bytes_repeated, none_deep}
use Rattle.tx.proofs.MadeTexts.{keys_rise_by}
use Rattle.tx.proofs.TransactionTexts.{is_within}

-- ---- in whatever order they stand

module _ {K : Type 0} (same : K → K → Bool) (xs ys : List K) (moved : IsPermutation xs ys) where
  count_moved : (k : K) → count_by (same k) ys ≡ count_by (same k) xs
  count_moved k = sum_by-IsPermutation (λ x. cond (same k x) 1 0) xs ys moved

  repeated_on : (k : K) → IsRepeated same xs k → IsRepeated same ys k
  repeated_on k h = subst (λ (n : ℕ). 1 < n) (sym (count_moved k)) h

  repeated_back : (k : K) → IsRepeated same ys k → IsRepeated same xs k
  repeated_back k h = subst (λ (n : ℕ). 1 < n) (count_moved k) h

  first_back : (cmp : K → K → Ordering) (k : K) → IsFirstRepeated same cmp ys k → IsFirstRepeated same cmp xs k
  first_back cmp k first = record { repeated = repeated_back k first.repeated; least = λ j low h. first.least j low (repeated_on j h) }

  some_on : (k : K) × IsRepeated same xs k → (k : K) × IsRepeated same ys k
  some_on h = (h.0, repeated_on h.0 h.1)

module _ (p q : Parts) (same : AreSamePartsAs p q) where
  keys_moved : IsPermutation (keys_of p) (keys_of q)
  keys_moved = IsPermutation-map (λ w. w.key) p.signatures q.signatures same.signatures

  hashes_moved : IsPermutation (hashes_of p) (hashes_of q)
  hashes_moved = IsPermutation-map script_hash_of p.scripts q.scripts same.scripts

  ends_back : AreEndsSound q → AreEndsSound p
  ends_back sound = record {
    inputs = λ h. sound.inputs (some_on _ p.inputs q.inputs same.inputs h);
    outputs = λ many. sound.outputs (omega (arith, many, ap length same.outputs));
  }

  no_key_back : ¬ HasRepeatedKey q → ¬ HasRepeatedKey p
  no_key_back none = λ h. none (some_on bytes_eq (keys_of p) (keys_of q) keys_moved h)

  no_script_back : ¬ HasRepeatedScript q → ¬ HasRepeatedScript p
  no_script_back none = λ h. none (some_on bytes_eq (hashes_of p) (hashes_of q) hashes_moved h)

  -- the first fault of parts is that of the same parts in another order
  pub fault_back : (fault : PartsFault) → IsPartsFault q fault → IsPartsFault p fault
  fault_back (faults.RepeatedInput input) first = first_back _ p.inputs q.inputs same.inputs _ (input_of input) first
  fault_back (faults.TooManyOutputs count) first =
      let few = ap length same.outputs in (
        λ h. first.0 (some_on _ p.inputs q.inputs same.inputs h),
        omega (arith, first.1, few),
        first.2 ∙ few,
      )
  fault_back (faults.RepeatedKey key) first = (ends_back first.0, first_back bytes_eq (keys_of p) (keys_of q) keys_moved _ key first.1)
  fault_back (faults.RepeatedScript hash) first = (ends_back first.0, no_key_back first.1, first_back bytes_eq (hashes_of p) (hashes_of q) hashes_moved _ hash.bytes first.2)
  fault_back faults.TooDeep first =
      (ends_back first.0, no_key_back first.1, no_script_back first.2, any_moved _ q.scripts p.scripts (IsPermutation-sym p.scripts q.scripts same.scripts) first.3)
  fault_back faults.OutOfMemory first =
      (ends_back first.0, no_key_back first.1, no_script_back first.2, λ deep. first.3 (any_moved _ p.scripts q.scripts same.scripts deep))

  -- the transaction of the parts in order has these parts
  pub is_tx_of : IsTxOf (transaction_of_parts q) p
  is_tx_of = record { inputs = same.inputs; outputs = same.outputs; fee = same.fee; interval = same.interval; mint = same.mint; signatures = same.signatures; scripts = same.scripts }

-- ---- no fault

-- of parts without a fault only memory is wanting
pub only_memory : (p : Parts) → AreSound p → IsPartsFault p faults.OutOfMemory
only_memory p sound =
    let ends : AreEndsSound p = record { inputs = no_input_repeated p.inputs sound.inputs_rise; outputs = λ many. absurd (omega (arith, many, sound.outputs_count)) } in
    (ends, no_bytes_repeated (keys_of p) sound.keys_rise, no_bytes_repeated (hashes_of p) sound.hashes_rise, none_deep p.scripts sound.said.scripts_nest)

-- ---- no transaction

-- no transaction with a text has parts that are at fault
pub refused : (p : Parts) (fault : PartsFault) → IsPartsFault p fault → IfAtFault fault ((tx : Transaction) (text : List ℕ) → SpellsTransaction tx text → IsTxOf tx p → ⊥)
refused p (faults.RepeatedInput input) first = λ tx text spells of.
    no_input_repeated tx.inputs spells.shape.inputs_rise (some_on _ p.inputs tx.inputs of.inputs (input_of input, first.repeated))
refused p (faults.TooManyOutputs count) first = λ tx text spells of. absurd (omega (arith, spells.shape.outputs_count, first.1, ap length of.outputs))
refused p (faults.RepeatedKey key) first = λ tx text spells of.
    no_bytes_repeated (map (λ w. w.key) tx.signatures) (keys_rise_by (slice_cmp nat_cmp) (λ w. w.key) tx.signatures spells.shape.signatures_rise)
    (some_on bytes_eq (keys_of p) (map (λ w. w.key) tx.signatures) (IsPermutation-map (λ w. w.key) p.signatures tx.signatures of.signatures) (key, first.1.repeated))
refused p (faults.RepeatedScript hash) first = λ tx text spells of.
    no_bytes_repeated (map script_hash_of tx.scripts) (keys_rise_by (slice_cmp nat_cmp) script_hash_of tx.scripts spells.shape.scripts_rise)
    (some_on bytes_eq (hashes_of p) (map script_hash_of tx.scripts) (IsPermutation-map script_hash_of p.scripts tx.scripts of.scripts) (hash.bytes, first.2.repeated))
refused p faults.TooDeep first = λ tx text spells of.
    let within = is_within tx 61 spells.shape spells.text.has_text.nests in
    none_bad (IsWithin 61) (λ s. 61 < nesting (item_of_script s)) tx.scripts (λ s low high. absurd (omega (arith, low.nests, high))) within.scripts (any_moved _ p.scripts tx.scripts of.scripts first.3)
refused p faults.OutOfMemory first = tt
