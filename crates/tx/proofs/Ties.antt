-- What stands in a list in order more than once, as a walk along neighbours finds it.
use Rattle.std.proofs.Common.{◌≡◌, ◌≢◌, ℕ, suc, ◌+◌, ◌<◌, ◌≤◌, Bool, true, false, ◌&&◌, cond, List, [], ◌∷◌, map, length, get_or, refl, sym, ap, subst, ◌∙◌, arith, inl, inr}
use Rattle.std.specs.Prelude.{◌⊎◌}
use Rattle.std.specs.Cmp.{IsTotalOrder}
use Rattle.std.specs.List.{AllByRecursion, count_by}
use Rattle.std.specs.List.Sorted.{IsSortedBy, IsStrictlySortedBy}
use Rattle.std.specs.Ordering.{is_lt, is_eq, ordering_reverse}
use Rattle.std.specs.declared.cmp.Ordering.{Ordering}
use Rattle.std.specs.declared.cmp.Ordering.TheVariants.{Less, Equal, Greater}
use Rattle.std.proofs.lemmas.Cmp.{tied_itself}
use Rattle.std.proofs.lemmas.List.Sums.{sum_by-cons}
use Rattle.tx.specs.Repeats.{IsFirstRepeated, IsFirstTie}
use Rattle.tx.specs.Rising.{rises_by}
use Rattle.tx.proofs.Rising.{sorted_if}

-- what is not below, seen from the other side
below_else : (o back : Ordering) → o ≡ ordering_reverse back → is_lt back ≡ false → is_eq o ≡ false → o ≡ Less
below_else o Less turned h apart = absurd cc
below_else o Equal turned h apart = let no : is_eq Equal ≡ false = subst (λ (r : Ordering). is_eq r ≡ false) turned apart in absurd cc
below_else o Greater turned h apart = turned

either_way : (b : Bool) → (b ≡ true) ⊎ (b ≡ false)
either_way true = inl refl
either_way false = inr refl

tied : (o : Ordering) → is_eq o ≡ true → o ≡ Equal
tied Less h = absurd cc
tied Equal h = refl
tied Greater h = absurd cc

-- none rise
pub none_rise : {X K : Type 0} (cmp : K → K → Ordering) (f : X → K) (xs : List X) → length xs ≡ 0 → IsStrictlySortedBy cmp (map f xs)
unfolding IsStrictlySortedBy
none_rise cmp f [] none = tt
none_rise cmp f (x ∷ xs) none = absurd (omega (arith, none))

module _ {K : Type 0} (cmp : K → K → Ordering) where
  -- no member stands before the one before it
  abbrev pub Climbs : List K → Type 0
  Climbs [] = Unit {0}
  Climbs (x ∷ []) = Unit {0}
  Climbs (x ∷ y ∷ ys) = (is_lt (cmp y x) ≡ false) × Climbs (y ∷ ys)

  -- of a walk along neighbours: the last one and what is left decide for all
  pub record DecidesFrom (all : List K) (last : K) (left : List K) : Type 0 where
    pub climbs : Climbs (last ∷ left)
    pub rises : rises_by cmp (last ∷ left) ≡ true → rises_by cmp all ≡ true
    pub repeats : (k : K) → IsFirstTie cmp (last ∷ left) k → IsFirstTie cmp all k

module _ {K : Type 0} (cmp : K → K → Ordering) (total : IsTotalOrder cmp) where
  -- what is below one is below what the one is not above
  step : (j x y : K) (back : Ordering) → back ≡ cmp y x → cmp j x ≡ Less → is_lt back ≡ false → cmp j y ≡ Less
  step j x y Less is low h = absurd cc
  step j x y Equal is low h =
      -- y ties with x
      total.antisymm j y ∙ ap ordering_reverse (total.congr y x j (sym is)) ∙ sym (total.antisymm j x) ∙ low
  step j x y Greater is low h = total.trans j x y low (total.antisymm x y ∙ ap ordering_reverse (sym is))

  all_above : (j x : K) (ys : List K) → cmp j x ≡ Less → Climbs cmp (x ∷ ys) → AllByRecursion (λ y. cmp j y ≡ Less) (x ∷ ys)
  all_above j x [] low up = (low, tt)
  all_above j x (y ∷ ys) low up = (low, all_above j y ys (step j x y (cmp y x) refl low up.0) up.1)

  all_congr : (k x : K) (xs : List K) → cmp k x ≡ Equal → AllByRecursion (λ y. cmp x y ≡ Less) xs → AllByRecursion (λ y. cmp k y ≡ Less) xs
  all_congr k x [] same above = tt
  all_congr k x (y ∷ ys) same above = (total.congr k x y same ∙ above.0, all_congr k x ys same above.1)

  -- how many tie with it
  abbrev ties : K → K → Bool
  ties k j = is_eq (cmp k j)

  counted : (k a : K) (bs : List K) → count_by (ties k) (a ∷ bs) ≡ cond (ties k a) 1 0 + count_by (ties k) bs
  counted k a bs = sum_by-cons (λ x. cond (ties k x) 1 0) a bs

  one_more : (k a : K) (bs : List K) → ties k a ≡ true → count_by (ties k) (a ∷ bs) ≡ 1 + count_by (ties k) bs
  one_more k a bs h = counted k a bs ∙ ap (λ (b : Bool). cond b 1 0 + count_by (ties k) bs) h

  same_count : (k a : K) (bs : List K) → ties k a ≡ false → count_by (ties k) (a ∷ bs) ≡ count_by (ties k) bs
  same_count k a bs h = counted k a bs ∙ ap (λ (b : Bool). cond b 1 0 + count_by (ties k) bs) h ∙ omega arith

  none_ties : (j : K) (ks : List K) → AllByRecursion (λ y. cmp j y ≡ Less) ks → count_by (ties j) ks ≡ 0
  none_ties j [] above = refl
  none_ties j (k ∷ ks) above = same_count j k ks (ap is_eq above.0) ∙ none_ties j ks above.1

  -- the first of two neighbours that tie
  tie_here : (x y : K) (ys : List K) → is_eq (cmp x y) ≡ true → Climbs cmp (x ∷ y ∷ ys) → IsFirstTie cmp (x ∷ y ∷ ys) x
  tie_here x y ys same up =
      let one = one_more x x (y ∷ ys) (ap is_eq (tied_itself total x)) in
      let two = one_more x y ys same in
      record {
        repeated = omega (arith, one, two);
        least = λ j low twice. let none = none_ties j (x ∷ y ∷ ys) (all_above j x (y ∷ ys) low up) in absurd (omega (arith, none, twice));
      }

  above_next : (x y : K) → is_lt (cmp y x) ≡ false → is_eq (cmp x y) ≡ false → cmp x y ≡ Less
  above_next x y up apart = below_else (cmp x y) (cmp y x) (total.antisymm x y) up apart

  -- a tie that stands behind one that is below all others
  tie_later : (x y : K) (ys : List K) (k : K) → is_eq (cmp x y) ≡ false → Climbs cmp (x ∷ y ∷ ys) → IsFirstTie cmp (y ∷ ys) k → IsFirstTie cmp (x ∷ y ∷ ys) k
  tie_later x y ys k apart up later =
      let low = above_next x y up.0 apart in
      record {
        repeated = omega (arith, counted k x (y ∷ ys), later.repeated);
        least = λ j lower twice. elim (either_way (ties j x)) [
          | inl same ↦
              let here : cmp j y ≡ Less = total.congr j x y (tied (cmp j x) same) ∙ low in
              let none = none_ties j (y ∷ ys) (all_above j y ys here up.1) in
              absurd (omega (arith, one_more j x (y ∷ ys) same, none, twice))
          | inr other ↦ later.least j lower (subst (λ (n : ℕ). 1 < n) (same_count j x (y ∷ ys) other) twice)
        ];
      }

  -- of what rises strictly none ties with another
  once_at_most : (k : K) (xs : List K) → IsStrictlySortedBy cmp xs → count_by (ties k) xs ≤ 1
  unfolding IsStrictlySortedBy
  once_at_most k [] up = omega arith
  once_at_most k (x ∷ xs) up = elim (either_way (ties k x)) [
    | inl same ↦
        let none = none_ties k xs (all_congr k x xs (tied (cmp k x) same) up.0) in
        omega (arith, one_more k x xs same, none)
    | inr other ↦ omega (arith, same_count k x xs other, once_at_most k xs up.1)
  ]

  pub rises_once : (k : K) (xs : List K) → IsStrictlySortedBy cmp xs → 1 < count_by (ties k) xs → ⊥
  rises_once k xs up twice = absurd (omega (arith, once_at_most k xs up, twice))

  -- ---- in a walk along neighbours

  pub decides_all : (first : K) (others : List K) → Climbs cmp (first ∷ others) → DecidesFrom cmp (first ∷ others) first others
  decides_all first others up = record { climbs = up; rises = λ h. h; repeats = λ k h. h }

  pub decides_more : (all : List K) (last next : K) (left : List K) → is_eq (cmp last next) ≡ false → DecidesFrom cmp all last (next ∷ left) → DecidesFrom cmp all next left
  decides_more all last next left apart d =
      let up = d.climbs in
      record {
        climbs = up.1;
        rises = λ h. d.rises (rw (above_next last next up.0 apart) h);
        repeats = λ k h. d.repeats k (tie_later last next left k apart up h);
      }

  pub decides_tie : (all : List K) (last next : K) (left : List K) → is_eq (cmp last next) ≡ true → DecidesFrom cmp all last (next ∷ left) → IsFirstTie cmp all last
  decides_tie all last next left same d = d.repeats last (tie_here last next left same d.climbs)

  pub decides_none : (all : List K) (last : K) → DecidesFrom cmp all last [] → IsStrictlySortedBy cmp all
  decides_none all last d = sorted_if total all (d.rises refl)

  module _ {X : Type 0} (f : X → K) where
    sorted_rest : (x : X) (xs : List X) → IsSortedBy (λ a b. is_lt (cmp (f a) (f b))) (x ∷ xs) → IsSortedBy (λ a b. is_lt (cmp (f a) (f b))) xs
    sorted_rest x xs h = λ k d low lt.
        let next : suc k + 1 ≡ suc (k + 1) = omega arith in
        subst (λ (n : ℕ). is_lt (cmp (f (get_or (x ∷ xs) n d)) (f (get_or xs k d))) ≡ false) next (h (suc k) d (omega arith) (omega arith))

    -- a sorted list climbs
    pub climbs_if : (xs : List X) → IsSortedBy (λ a b. is_lt (cmp (f a) (f b))) xs → Climbs cmp (map f xs)
    climbs_if [] h = tt
    climbs_if (x ∷ []) h = tt
    climbs_if (x ∷ y ∷ ys) h = (h 0 x (omega arith) (omega arith), climbs_if (y ∷ ys) (sorted_rest x (y ∷ ys) h))
