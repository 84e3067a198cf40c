-- The two laws of reading a witness set, from those of its entries.
use Rattle.std.proofs.Common.{◌≡◌, ◌≢◌, ℕ, suc, ◌-◌, ◌+◌, ◌≤◌, List, [], ◌∷◌, ◌++◌, length, map, Option, Some, None, refl, sym, ap, arith}
use Rattle.std.specs.Prelude.{IfSome}
use Rattle.std.specs.List.{AllByRecursion}
use Rattle.std.specs.List.Sorted.{IsStrictlySortedBy}
use Rattle.model.specs.Cbor.{Item, Unsigned, map_of, array_of}
use Rattle.model.specs.Script.{Script, item_of_script}
use Rattle.model.specs.Transaction.{KeyWitness, item_of_witness, unless_empty, IsKeyWitness, witness_cmp, script_cmp}
use Rattle.cbor.proofs.ForCallers.{Field, ReadsItem, ReadsFields, such_reads, same_reads, nonempty_reads, list_array_reads, deeper_reads, optional_field_reads, fields_reads, as_fields_reads, record_reads}
use Rattle.timelock.proofs.ForCallers.{IsWithin, nested_script_reads}
use Rattle.tx.specs.Rising.{rises_by}
use Rattle.tx.specs.TransactionReading.{or_none, scripts_at, signatures_field_at, scripts_field_at, witnesses_at}
use Rattle.tx.specs.WitnessesView.{signatures_item, scripts_item, witness_entries}
use Rattle.tx.specs.View.{witness_of}
use Rattle.tx.specs.declared.key_witness.KeyWitness.{KeyWitness as CodeKeyWitness}
use Rattle.tx.proofs.Rising.{sorted_if, rises_if, scripts_total}
use Rattle.tx.proofs.PartTexts.{AreSignatures, signatures_reads}

-- what is written of a list that is not empty
pub some_are_written : (signatures : List CodeKeyWitness) → length signatures ≢ 0 → (Unsigned 0, array_of (map item_of_witness (map witness_of signatures))) ∷ [] ≡ unless_empty 0 signatures_item (map witness_of signatures)
some_are_written [] some = absurd (some refl)
some_are_written (s ∷ ss) some = refl

-- ---- scripts

-- scripts whose hashes rise strictly, one at least, each of which nests at most so deep
abbrev AreSomeScripts : ℕ → List Script → Type 0
AreSomeScripts depth xs = (AllByRecursion (IsWithin depth) xs × (xs ≢ [])) × IsStrictlySortedBy script_cmp xs

scripts_reads : (depth : ℕ) → depth ≤ 64 → ReadsItem scripts_item (AreSomeScripts depth) (suc depth) (scripts_at depth)
unfolding scripts_at
scripts_reads depth le = such_reads (rises_by script_cmp) (AreSomeScripts depth) (λ xs p t. (p, sorted_if scripts_total xs t)) (λ xs p. (p.0, rises_if script_cmp xs p.1)) (nonempty_reads (list_array_reads (nested_script_reads depth le)))

-- ---- entries that are left out where they are empty

-- an entry of this key, where it stands there
abbrev entry_of : {A : Type 0} → ℕ → (List A → Item) → Option (List A) → List Field
entry_of key item None = []
entry_of key item (Some xs) = (Unsigned key, item xs) ∷ []

module _ {A : Type 0} (key : ℕ) (item : List A → Item) (P : List A → Type 0) (nothing : P []) where
  onto : (o : Option (List A)) → IfSome o (λ xs. P xs × (xs ≢ [])) → (unless_empty key item (or_none o) ≡ entry_of key item o) × P (or_none o)
  onto None p = (refl, nothing)
  onto (Some []) p = absurd (p.1 refl)
  onto (Some (x ∷ xs)) p = (refl, p.0)

  back : (xs : List A) → P xs → (o : Option (List A)) × IfSome o (λ xs. P xs × (xs ≢ [])) × (or_none o ≡ xs)
  back [] p = (None, tt, refl)
  back (x ∷ xs) p = (Some (x ∷ xs), (p, λ e. absurd cc), refl)

-- signatures, maybe none
abbrev pub AreWitnesses : List KeyWitness → Type 0
AreWitnesses xs = AllByRecursion IsKeyWitness xs × IsStrictlySortedBy witness_cmp xs

-- scripts, maybe none
abbrev pub AreScripts : ℕ → List Script → Type 0
AreScripts depth xs = AllByRecursion (IsWithin depth) xs × IsStrictlySortedBy script_cmp xs

no_witnesses : AreWitnesses []
unfolding IsStrictlySortedBy
no_witnesses = (tt, tt)

no_scripts : (depth : ℕ) → AreScripts depth []
unfolding IsStrictlySortedBy
no_scripts depth = (tt, tt)

signatures_field_reads : (deep : ℕ) → 2 ≤ deep → ReadsFields (λ xs. unless_empty 0 signatures_item xs) AreWitnesses (suc deep) 0 1 signatures_field_at
unfolding signatures_field_at
signatures_field_reads deep le =
    as_fields_reads or_none (λ xs. unless_empty 0 signatures_item xs) AreWitnesses (onto 0 signatures_item AreWitnesses no_witnesses) (back 0 signatures_item AreWitnesses no_witnesses)
    (optional_field_reads 0 (omega arith) (entry_of 0 signatures_item) refl (λ xs. refl) (same_reads (λ xs. AreWitnesses xs × (xs ≢ [])) (λ xs p. ((p.0.0, p.1), p.0.1)) (λ xs p. ((p.0.0, p.1), p.0.1)) (deeper_reads (suc deep) (omega (arith, le)) signatures_reads)))

scripts_field_reads : (deep depth : ℕ) → depth ≤ deep → depth ≤ 64 → ReadsFields (λ xs. unless_empty 1 scripts_item xs) (AreScripts depth) (suc deep) 1 2 (scripts_field_at depth)
unfolding scripts_field_at
scripts_field_reads deep depth le limit =
    as_fields_reads or_none (λ xs. unless_empty 1 scripts_item xs) (AreScripts depth) (onto 1 scripts_item (AreScripts depth) (no_scripts depth)) (back 1 scripts_item (AreScripts depth) (no_scripts depth))
    (optional_field_reads 1 (omega arith) (entry_of 1 scripts_item) refl (λ xs. refl) (same_reads (λ xs. AreScripts depth xs × (xs ≢ [])) (λ xs p. ((p.0.0, p.1), p.0.1)) (λ xs p. ((p.0.0, p.1), p.0.1)) (deeper_reads (suc deep) (omega (arith, le)) (scripts_reads depth limit))))

-- a witness set, whose scripts may nest less deep than others of its parts
pub witnesses_reads : (deep depth : ℕ) → 2 ≤ deep → depth ≤ deep → depth ≤ 64 → ReadsItem (λ w. map_of (witness_entries w)) (λ w. AreWitnesses w.0 × AreScripts depth w.1) (suc (suc deep)) (witnesses_at depth)
unfolding witnesses_at
witnesses_reads deep depth some le limit = record_reads (omega arith) (fields_reads (omega arith) (omega arith) (signatures_field_reads deep some) (scripts_field_reads deep depth le limit))
