-- How changes are undone.
use Rattle.std.proofs.Common.{◌≡◌, ℕ, ◌+◌, ◌-◌, ◌<◌, ◌≤◌, Bool, true, false, cond, List, [], ◌∷◌, ◌++◌, length, drop, get_or, Option, Some, None, refl, sym, ap, ◌∙◌, arith}
use Rattle.std.specs.FinMap as finite
use Rattle.std.specs.FinMap.{IsAntisymmetric}
use Rattle.std.specs.Ordering.{eq_by_cmp}
use Rattle.std.specs.declared.cmp.Ordering.{Ordering}
use Rattle.std.specs.Cmp.{IsTotalOrder, Equal-is}
use Rattle.std.proofs.lemmas.List.{drop_all}
use Rattle.cbor.proofs.ForCallers.{drop_here}
use Rattle.watching.specs.Chains.{Tables}
use Rattle.watching.specs.Changes.{Change, restored, put_back, all_put_back}

pub as_it_was : {X : Type 0} (t : Bool) (was here elsewhere : Option X) → (t ≡ true → here ≡ was) → (t ≡ false → elsewhere ≡ was) → cond t here elsewhere ≡ was
as_it_was true was here elsewhere a b = a refl
as_it_was false was here elsewhere a b = b refl

tied : {K : Type 0} {R : K → K → Ordering} → IsAntisymmetric R → (q k : K) → eq_by_cmp R q k ≡ true → q ≡ k
tied {R = R} same q k tie = same q k ((Equal-is (R q k)).0 tie)

module _ {K X : Type 0} {R : K → K → Ordering} (total : IsTotalOrder R) (same : IsAntisymmetric R) where
  -- maps that differ at one key alone are made the same by what stood there
  undone : (m now : finite.FinMap R X) (k : K) (o : Option X) → o ≡ finite.get m k → ((q : K) → eq_by_cmp R q k ≡ false → finite.get now q ≡ finite.get m q) → restored now k o ≡ m
  undone m now k None is others = finite.same_map total same (finite.remove now k) m (λ q.
      finite.get-remove total now k q
      ∙ as_it_was (eq_by_cmp R q k) (finite.get m q) None (finite.get now q) (λ tie. is ∙ ap (finite.get m) (sym (tied same q k tie))) (others q))
  undone m now k (Some x) is others = finite.same_map total same (finite.insert now k x) m (λ q.
      finite.get-insert total now k x q
      ∙ as_it_was (eq_by_cmp R q k) (finite.get m q) (Some x) (finite.get now q) (λ tie. is ∙ ap (finite.get m) (sym (tied same q k tie))) (others q))

  -- what is removed comes back
  pub removal_undone : (m : finite.FinMap R X) (k : K) (o : Option X) → o ≡ finite.get m k → restored (finite.remove m k) k o ≡ m
  removal_undone m k o is = undone m (finite.remove m k) k o is (λ q other.
      finite.get-remove total m k q ∙ ap (λ (t : Bool). cond t None (finite.get m q)) other)

  -- and what was replaced
  pub placing_undone : (m : finite.FinMap R X) (k : K) (x : X) (o : Option X) → o ≡ finite.get m k → restored (finite.insert m k x) k o ≡ m
  placing_undone m k x o is = undone m (finite.insert m k x) k o is (λ q other.
      finite.get-insert total m k x q ∙ ap (λ (t : Bool). cond t (Some x) (finite.get m q)) other)

-- ---- several

put_back_push : (cs : List Change) (c : Change) (k : Tables) → all_put_back (cs ++ c ∷ []) k ≡ all_put_back cs (put_back c k)
put_back_push [] c k = refl
put_back_push (d ∷ cs) c k = ap (put_back d) (put_back_push cs c k)

pub one_more : (cs more : List Change) (c : Change) (now new : Tables) → more ≡ cs ++ c ∷ [] → put_back c new ≡ now → all_put_back more new ≡ all_put_back cs now
one_more cs more c now new is back = ap (λ (xs : List Change). all_put_back xs new) is ∙ put_back_push cs c new ∙ ap (all_put_back cs) back

pub none_back : (cs : List Change) (k : Tables) → k ≡ all_put_back (drop (length cs - 0) cs) k
none_back cs k = sym (ap (λ (xs : List Change). all_put_back xs k) (drop_all (length cs - 0) cs (omega arith)))

pub one_back : (cs : List Change) (old now new : Tables) (done at : ℕ) (c : Change) → done < length cs → at ≡ length cs - 1 - done → c ≡ get_or cs at c → now ≡ all_put_back (drop (length cs - done) cs) old → new ≡ put_back c now
    → new ≡ all_put_back (drop (length cs - (done + 1)) cs) old
one_back cs old now new done at c lt place is before back =
    let next : at + 1 ≡ length cs - done = omega (arith, lt, place) in
    let here : at ≡ length cs - (done + 1) = omega (arith, lt, place) in
    back ∙ ap (put_back c) before ∙ ap (λ (n : ℕ). put_back c (all_put_back (drop n cs) old)) (sym next)
    ∙ ap (λ (xs : List Change). all_put_back xs old) (sym (drop_here cs at c (omega (arith, lt, place)) is))
    ∙ ap (λ (n : ℕ). all_put_back (drop n cs) old) here

pub all_back : (cs : List Change) (old now : Tables) (done : ℕ) → length cs ≤ done → now ≡ all_put_back (drop (length cs - done) cs) old → now ≡ all_put_back cs old
all_back cs old now done le is = let none : length cs - done ≡ 0 = omega (arith, le) in is ∙ ap (λ (n : ℕ). all_put_back (drop n cs) old) none
