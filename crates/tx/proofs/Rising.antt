-- The test whether a list rises strictly: what `is_sorted_by` answers by it, and that it is the order of the definitions.
use Rattle.std.proofs.Common.{◌≡◌, ℕ, zero, suc, ◌+◌, ◌<◌, Bool, true, false, ◌&&◌, List, [], ◌∷◌, length, get_or, map, refl, sym, ap, subst, arith}
use Rattle.std.specs.Cmp.{IsTotalOrder}
use Rattle.std.specs.List.{AllByRecursion, AllAdjacentBelow, IsAllAdjacentAnswer}
use Rattle.std.specs.List.Sorted.{IsStrictlySortedBy}
use Rattle.std.specs.Ordering.{is_lt}
use Rattle.std.specs.declared.cmp.Ordering.{Ordering}
use Rattle.std.specs.declared.cmp.Ordering.TheVariants.{Less, Equal, Greater}
use Rattle.std.proofs.lemmas.Cmp.{nat_list_cmp_total, on_total}
use Rattle.model.specs.Transaction.{KeyWitness, witness_cmp, script_cmp}
use Rattle.model.specs.Script.{script_hash_of}
use Rattle.tx.specs.Rising.{rises_by}
pub use Rattle.tx.specs.Order.{inputs_total}

and_false : (b : Bool) → b && false ≡ false
and_false true = refl
and_false false = refl

both : (a b : Bool) → a && b ≡ true → (a ≡ true) × (b ≡ true)
both true b h = (refl, h)
both false b h = absurd cc

is_less : (o : Ordering) → is_lt o ≡ true → o ≡ Less
is_less Less h = refl
is_less Equal h = absurd cc
is_less Greater h = absurd cc

-- ---- what the code answers

module _ {A B : Type 0} (cmp : B → B → Ordering) (view : A → B) where
  -- whether one stands before another
  abbrev stands : A → A → Bool
  stands x y = is_lt (cmp (view x) (view y))

  next : (x y : A) (ys : List A) (k : ℕ) (d : A) (b : Bool) → b ≡ stands (get_or (x ∷ y ∷ ys) (suc k) d) (get_or (x ∷ y ∷ ys) (suc k + 1) d) → b ≡ stands (get_or (y ∷ ys) k d) (get_or (y ∷ ys) (k + 1) d)
  next x y ys k d b h =
      let e : suc k + 1 ≡ suc (k + 1) = omega arith in
      subst (λ (n : ℕ). b ≡ stands (get_or (y ∷ ys) k d) (get_or (x ∷ y ∷ ys) n d)) e h

  all_rise : (xs : List A) → AllAdjacentBelow (λ x y. true ≡ stands x y) xs (length xs) → true ≡ rises_by cmp (map view xs)
  all_rise [] h = refl
  all_rise (x ∷ []) h = refl
  all_rise (x ∷ y ∷ ys) h =
      let first : true ≡ stands x y = h 0 x (omega arith) in
      let others : true ≡ rises_by cmp (map view (y ∷ ys)) = all_rise (y ∷ ys) (λ k d lt. next x y ys k d true (h (suc k) d (omega (arith, lt)))) in
      rw (sym first, sym others) refl

  one_falls : (xs : List A) (k : ℕ) → k + 1 < length xs → ((d : A) → false ≡ stands (get_or xs k d) (get_or xs (k + 1) d)) → false ≡ rises_by cmp (map view xs)
  one_falls [] k lt h = absurd (omega (arith, lt))
  one_falls (x ∷ []) k lt h = absurd (omega (arith, lt))
  one_falls (x ∷ y ∷ ys) zero lt h = let first : false ≡ stands x y = h x in rw (sym first) refl
  one_falls (x ∷ y ∷ ys) (suc k) lt h =
      let others : false ≡ rises_by cmp (map view (y ∷ ys)) = one_falls (y ∷ ys) k (omega (arith, lt)) (λ d. next x y ys k d false (h d)) in
      rw (sym others) (sym (and_false (stands x y)))

  -- what `is_sorted_by` answers
  pub rises_is : (xs : List A) (answer : Bool) → IsAllAdjacentAnswer (λ x y b. b ≡ stands x y) xs answer → answer ≡ rises_by cmp (map view xs)
  rises_is xs true h = all_rise xs h
  rises_is xs false h = one_falls xs h.0 h.1 h.2

-- ---- the order of the definitions

below : {A : Type 0} {cmp : A → A → Ordering} (order : IsTotalOrder cmp) (x y : A) (zs : List A) → cmp x y ≡ Less → AllByRecursion (λ z. cmp y z ≡ Less) zs → AllByRecursion (λ z. cmp x z ≡ Less) zs
below order x y [] first all = tt
below order x y (z ∷ zs) first all = (order.trans x y z first all.0, below order x y zs first all.1)

-- a list that rises from each member to the next is in strict order
pub sorted_if : {A : Type 0} {cmp : A → A → Ordering} (order : IsTotalOrder cmp) (xs : List A) → rises_by cmp xs ≡ true → IsStrictlySortedBy cmp xs
unfolding IsStrictlySortedBy
sorted_if order [] h = tt
sorted_if order (x ∷ []) h = (tt, tt)
sorted_if {A} {cmp} order (x ∷ y ∷ ys) h =
    let two = both (is_lt (cmp x y)) (rises_by cmp (y ∷ ys)) h in
    let first = is_less (cmp x y) two.0 in
    let others = sorted_if order (y ∷ ys) two.1 in
    ((first, below order x y ys first others.0), others)

-- and the other way round
pub rises_if : {A : Type 0} (cmp : A → A → Ordering) (xs : List A) → IsStrictlySortedBy cmp xs → rises_by cmp xs ≡ true
unfolding IsStrictlySortedBy
rises_if cmp [] h = refl
rises_if cmp (x ∷ []) h = refl
rises_if cmp (x ∷ y ∷ ys) h = rw (h.0.0, rises_if cmp (y ∷ ys) h.1) refl

-- ---- the two orders

pub keys_total : IsTotalOrder witness_cmp
keys_total = on_total (λ (w : KeyWitness). w.key) nat_list_cmp_total

pub scripts_total : IsTotalOrder script_cmp
scripts_total = on_total script_hash_of nat_list_cmp_total

-- what stands for itself
pub same_list : {A : Type 0} (xs : List A) → map (λ x. x) xs ≡ xs
same_list [] = refl
same_list (x ∷ xs) = ap (λ (ys : List _). x ∷ ys) (same_list xs)
