-- Of the same parts there is one transaction that has a text.
use Rattle.std.proofs.Common.{◌≡◌, ◌<◌, ℕ, List, [], ◌∷◌, refl, sym, ap, subst, ◌∙◌, inl, inr}
use Rattle.std.specs.Prelude.{◌⊎◌}
use Rattle.std.specs.Cmp.{IsTotalOrder}
use Rattle.std.specs.List.{AllByRecursion}
use Rattle.std.specs.List.Sorted.{IsPermutation, IsStrictlySortedBy}
use Rattle.std.specs.Ordering.{ordering_reverse}
use Rattle.std.specs.declared.cmp.Ordering.{Ordering}
use Rattle.std.specs.declared.cmp.Ordering.TheVariants.{Less, Equal, Greater}
use Rattle.std.proofs.lemmas.Cmp.{tied_itself}
use Rattle.std.proofs.lemmas.List.Sorted.{IsPermutation-sym, IsPermutation-trans}
use Rattle.model.specs.Script.{Interval}
use Rattle.model.specs.Transaction.{Transaction, SpellsTransaction, interval_of_transaction, input_cmp, witness_cmp, script_cmp}
use Rattle.value.proofs.ForCallers.{IsIn, moved_in, from_all}
use Rattle.tx.specs.Parts.{Parts, IsTxOf}
use Rattle.tx.proofs.Rising.{inputs_total, keys_total, scripts_total}

module _ {A : Type 0} (cmp : A → A → Ordering) (total : IsTotalOrder cmp) where
  not_below_itself : (a : A) → cmp a a ≡ Less → ⊥
  not_below_itself a h = let tie : Equal ≡ Less = sym (tied_itself total a) ∙ h in absurd cc

  not_both_below : (a b : A) → cmp a b ≡ Less → cmp b a ≡ Less → ⊥
  not_both_below a b h g = let turned : Less ≡ Greater = sym h ∙ total.antisymm a b ∙ ap ordering_reverse g in absurd cc

  same_heads : (x y : A) (xs ys : List A) → AllByRecursion (λ b. cmp x b ≡ Less) xs → AllByRecursion (λ b. cmp y b ≡ Less) ys → IsIn x (y ∷ ys) → IsIn y (x ∷ xs) → x ≡ y
  same_heads x y xs ys up also there here =
      elim there [
        | inl same ↦ same
        | inr later ↦ elim here [
          | inl same ↦ sym same
          | inr after ↦ absurd (not_both_below x y (from_all (λ b. cmp x b ≡ Less) xs y up after) (from_all (λ b. cmp y b ≡ Less) ys x also later))
        ]
      ]

  -- a member after the first is a member after the same first
  in_rest : (x y : A) (xs ys : List A) → x ≡ y → AllByRecursion (λ b. cmp x b ≡ Less) xs → (z : A) → IsIn z xs → IsIn z (y ∷ ys) → IsIn z ys
  in_rest x y xs ys heads up z here there =
      elim there [
        | inl same ↦ absurd (not_below_itself x (subst (λ b. cmp x b ≡ Less) (same ∙ sym heads) (from_all (λ b. cmp x b ≡ Less) xs z up here)))
        | inr rest ↦ rest
      ]

  same_list : (xs ys : List A) → IsStrictlySortedBy cmp xs → IsStrictlySortedBy cmp ys → ((z : A) → IsIn z xs → IsIn z ys) → ((z : A) → IsIn z ys → IsIn z xs) → xs ≡ ys
  unfolding IsStrictlySortedBy
  same_list [] [] up also to from = refl
  same_list [] (y ∷ ys) up also to from = absurd (from y (inl refl))
  same_list (x ∷ xs) [] up also to from = absurd (to x (inl refl))
  same_list (x ∷ xs) (y ∷ ys) up also to from =
      let heads = same_heads x y xs ys up.0 also.0 (to x (inl refl)) (from y (inl refl)) in
      let rests = same_list xs ys up.1 also.1 (λ z h. in_rest x y xs ys heads up.0 z h (to z (inr h))) (λ z h. in_rest y x ys xs (sym heads) also.0 z h (from z (inr h))) in
      λ i. heads i ∷ rests i

  -- of the same members there is one list that rises
  pub one_order : (told xs ys : List A) → IsStrictlySortedBy cmp xs → IsStrictlySortedBy cmp ys → IsPermutation told xs → IsPermutation told ys → xs ≡ ys
  one_order told xs ys up also same too =
      let moved = IsPermutation-trans xs told ys (IsPermutation-sym told xs same) too in
      same_list xs ys up also (moved_in xs ys moved) (moved_in ys xs (IsPermutation-sym xs ys moved))

pub one_tx_made : (a b : Transaction) (parts : Parts) (text other : List ℕ) → SpellsTransaction a text → SpellsTransaction b other → IsTxOf a parts → IsTxOf b parts → a ≡ b
one_tx_made a b parts text other spells also same too =
    let inputs = one_order input_cmp inputs_total parts.inputs a.inputs b.inputs spells.shape.inputs_rise also.shape.inputs_rise same.inputs too.inputs in
    let signatures = one_order witness_cmp keys_total parts.signatures a.signatures b.signatures spells.shape.signatures_rise also.shape.signatures_rise same.signatures too.signatures in
    let scripts = one_order script_cmp scripts_total parts.scripts a.scripts b.scripts spells.shape.scripts_rise also.shape.scripts_rise same.scripts too.scripts in
    let outputs = same.outputs ∙ sym too.outputs in
    let fees = same.fee ∙ sym too.fee in
    let intervals : interval_of_transaction a ≡ interval_of_transaction b = same.interval ∙ sym too.interval in
    let mints = same.mint ∙ sym too.mint in
    λ i. record { inputs = inputs i; outputs = outputs i; fee = fees i; end = (intervals i).end; start = (intervals i).start; mint = mints i; signatures = signatures i; scripts = scripts i }
