-- What the faults of parts say of them, and that parts without one have none.
use Rattle.std.proofs.Common.{◌≡◌, ℕ, ◌<◌, ◌≤◌, max, Bool, true, false, ◌&&◌, cond, eqb, ltb, List, [], ◌∷◌, length, map, refl, sym, ap, subst, ◌∙◌, arith}
use Rattle.std.specs.Prelude.{bytes_eq}
use Rattle.std.specs.Bool.{OnTrue}
use Rattle.std.specs.Cmp.{IsTotalOrder}
use Rattle.std.specs.Cmp.Lexicographic.{slice_cmp}
use Rattle.std.specs.List.{Any, AllByRecursion}
use Rattle.std.specs.List.Sorted.{IsStrictlySortedBy}
use Rattle.std.specs.Ordering.{nat_cmp, is_eq, ordering_then}
use Rattle.std.specs.declared.cmp.Ordering.{Ordering}
use Rattle.std.specs.declared.cmp.Ordering.TheVariants.{Less, Equal, Greater}
use Rattle.std.proofs.lemmas.Bool.{ltb-true}
use Rattle.std.proofs.lemmas.Cmp.{nat_list_cmp_total}
use Rattle.std.proofs.lemmas.Map.Text.{is_eq-slice_cmp}
use Rattle.model.specs.Cbor.{nesting, items_of, items_nesting}
use Rattle.model.specs.Script.{Script, item_of_script}
use Rattle.model.specs.Transaction.{Input, input_cmp}
use Rattle.cbor.proofs.ForCallers.{map_twice}
use Rattle.value.proofs.ForCallers.{any_here, any_there, none_bad}
use Rattle.tx.specs.Repeats.{IsRepeated, IsFirstRepeated, IsFirstTie, same_input}
use Rattle.tx.specs.View.{witness_of}
use Rattle.tx.specs.declared.key_witness.KeyWitness.{KeyWitness as CodeKeyWitness}
use Rattle.tx.proofs.Rising.{inputs_total}
use Rattle.tx.proofs.Ties.{rises_once}

-- ---- what ties is the same

number_bits : (lt eq : Bool) → (lt ≡ true → eq ≡ false) → is_eq (cond lt Less (cond eq Equal Greater)) ≡ eq
number_bits true eq h = sym (h refl)
number_bits false true h = refl
number_bits false false h = refl

number_apart : (a b : ℕ) → a < b → eqb a b ≡ false
number_apart a b lt = grind (arith, lt)

same_number : (a b : ℕ) → is_eq (nat_cmp a b) ≡ eqb a b
same_number a b = number_bits (ltb a b) (eqb a b) (λ lt. number_apart a b (ltb-true a b lt))

both_tie : (o n : Ordering) → is_eq (ordering_then o n) ≡ is_eq o && is_eq n
both_tie Less n = refl
both_tie Equal n = refl
both_tie Greater n = refl

inputs_tie : (a b : Input) → is_eq (input_cmp a b) ≡ same_input a b
inputs_tie a b =
    both_tie (slice_cmp nat_cmp a.transaction b.transaction) (nat_cmp a.index b.index)
    ∙ (λ i. is_eq-slice_cmp a.transaction b.transaction i && same_number a.index b.index i)

module _ {K : Type 0} (cmp : K → K → Ordering) (total : IsTotalOrder cmp) (same : K → K → Bool) (tie : (a b : K) → is_eq (cmp a b) ≡ same a b) where
  found : (ks : List K) (k : K) → IsFirstTie cmp ks k → IsFirstRepeated same cmp ks k
  found ks k first = subst (λ (test : K → K → Bool). IsFirstRepeated test cmp ks k) (λ i a b. tie a b i) first

  none_found : (ks : List K) → IsStrictlySortedBy cmp ks → (k : K) × IsRepeated same ks k → ⊥
  none_found ks up r =
      let tests : (λ (a : K) (b : K). is_eq (cmp a b)) ≡ same = λ i a b. tie a b i in
      rises_once cmp total r.0 ks up (subst (λ (test : K → K → Bool). IsRepeated test ks r.0) (sym tests) r.1)

pub input_repeated : (inputs : List Input) (input : Input) → IsFirstTie input_cmp inputs input → IsFirstRepeated same_input input_cmp inputs input
input_repeated = found input_cmp inputs_total same_input inputs_tie

pub no_input_repeated : (inputs : List Input) → IsStrictlySortedBy input_cmp inputs → (input : Input) × IsRepeated same_input inputs input → ⊥
no_input_repeated = none_found input_cmp inputs_total same_input inputs_tie

pub bytes_repeated : (ks : List (List ℕ)) (k : List ℕ) → IsFirstTie (slice_cmp nat_cmp) ks k → IsFirstRepeated bytes_eq (slice_cmp nat_cmp) ks k
bytes_repeated = found (slice_cmp nat_cmp) nat_list_cmp_total bytes_eq is_eq-slice_cmp

pub no_bytes_repeated : (ks : List (List ℕ)) → IsStrictlySortedBy (slice_cmp nat_cmp) ks → (k : List ℕ) × IsRepeated bytes_eq ks k → ⊥
no_bytes_repeated = none_found (slice_cmp nat_cmp) nat_list_cmp_total bytes_eq is_eq-slice_cmp

-- the keys of signatures, by what they stand for
pub keys_seen : (ws : List CodeKeyWitness) (key : List ℕ) → IsFirstTie (slice_cmp nat_cmp) (map (λ w. w.key) ws) key → IsFirstTie (slice_cmp nat_cmp) (map (λ w. w.key) (map witness_of ws)) key
keys_seen ws key first = subst (λ (ks : List (List ℕ)). IsFirstTie (slice_cmp nat_cmp) ks key) (sym (map_twice (λ w. w.key) witness_of ws)) first

pub keys_rise : (ws : List CodeKeyWitness) → IsStrictlySortedBy (slice_cmp nat_cmp) (map (λ w. w.key) ws) → IsStrictlySortedBy (slice_cmp nat_cmp) (map (λ w. w.key) (map witness_of ws))
keys_rise ws up = subst (λ (ks : List (List ℕ)). IsStrictlySortedBy (slice_cmp nat_cmp) ks) (sym (map_twice (λ w. w.key) witness_of ws)) up

-- ---- scripts that nest too deep

abbrev IsDeep : Script → Type 0
IsDeep script = 61 < nesting (item_of_script script)

deeper_of : (depth others : ℕ) (script : Script) (ss : List Script) → depth ≡ nesting (item_of_script script) → (61 < others → Any IsDeep ss) → (b : Bool) → b ≡ ltb 61 depth → 61 < max depth others → Any IsDeep (script ∷ ss)
deeper_of depth others script ss is more true test deep = any_here IsDeep script ss (omega (arith, is, ltb-true 61 depth (sym test)))
deeper_of depth others script ss is more false test deep = any_there IsDeep script ss (more (grind (arith, deep, test)))

-- where the deepest is too deep, one is
pub one_deep : (ss : List Script) → 61 < items_nesting (items_of (map item_of_script ss)) → Any IsDeep ss
one_deep [] deep = absurd (omega (arith, deep))
one_deep (s ∷ ss) deep = deeper_of (nesting (item_of_script s)) (items_nesting (items_of (map item_of_script ss))) s ss refl (one_deep ss) (ltb 61 (nesting (item_of_script s))) refl deep

-- each is as deep as the deepest at most
pub all_shallow : (ss : List Script) → items_nesting (items_of (map item_of_script ss)) ≤ 61 → AllByRecursion (λ s. nesting (item_of_script s) ≤ 61) ss
all_shallow [] shallow = tt
all_shallow (s ∷ ss) shallow = (omega (arith, shallow), all_shallow ss (omega (arith, shallow)))

pub none_deep : (ss : List Script) → items_nesting (items_of (map item_of_script ss)) ≤ 61 → Any IsDeep ss → ⊥
none_deep ss shallow deep = none_bad (λ s. nesting (item_of_script s) ≤ 61) IsDeep ss (λ s low high. absurd (omega (arith, low, high))) (all_shallow ss shallow) deep

-- what a test says where it holds
pub on_true : (b : Bool) (P : Type 0) → (b ≡ true → P) → OnTrue b P
on_true true P h = h refl
on_true false P h = tt
