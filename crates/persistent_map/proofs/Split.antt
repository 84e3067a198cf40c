-- What a look-up and a change of a key do in a list that is split at one of its entries.
use Rattle.std.proofs.Common.{◌≡◌, Bool, true, false, cond, not, ◌&&◌, T, List, [], ◌∷◌, ◌++◌, is_some, Result, Ok, Err, OnErr, refl, sym, ap, subst, ◌∙◌}
use Rattle.std.specs.Prelude.{IsSome}
use Rattle.std.specs.declared.cmp.Ordering.{Ordering}
use Rattle.std.specs.declared.cmp.Ordering.TheVariants.{Less, Equal, Greater}
use Rattle.std.specs.declared.option.Option.{Option}
use Rattle.std.specs.declared.option.Option.TheVariants.{None, Some}
use Rattle.std.specs.declared.alloc.Global.{Global}
use Rattle.std.specs.declared.sync.Arc.{Arc}
use Rattle.std.specs.Option.{option_map}
use Rattle.std.specs.Arc.{arc_value}
use Rattle.std.specs.Ordering.{is_lt, is_eq, ordering_reverse}
use Rattle.std.specs.Cmp.{IsTotalOrder}
use Rattle.std.specs.FinMap.{find, put, is_sorted}
use Rattle.std.specs.FinMap.Entries.{below_all, by_order}
use Rattle.persistent_map.specs.Order.{Rise, without, WasFound, IsThere}

both : (a b : Bool) → T a → T b → T (a && b)
both true b p q = q
both false b p q = p

pub first : (a b : Bool) → T (a && b) → T a
first true b p = tt
first false b p = p

pub second : (a b : Bool) → T (a && b) → T b
second true b p = p
second false b p = absurd p

pub less : (o : Ordering) → T (is_lt o) → o ≡ Less
less Less p = refl
less Equal p = absurd p
less Greater p = absurd p

is_less : (o : Ordering) → o ≡ Less → T (is_lt o)
is_less o e = subst (λ r. T (is_lt r)) (sym e) tt

pub is_greater : (o : Ordering) → (o ≡ Less → ⊥) → (o ≡ Equal → ⊥) → o ≡ Greater
is_greater Less l e = absurd (l refl)
is_greater Equal l e = absurd (e refl)
is_greater Greater l e = refl

-- what is found of q in es, what es is with q at a value, and what it is without q
pub record Facts {K V : Type 0} (R : K → K → Ordering) (q : K) (es : List (K × V)) (value : Option V) (with : V → List (K × V)) (rest : List (K × V)) : Type 0 where
  pub found : find R q es ≡ value
  pub put_in : (w : V) → put R q w es ≡ with w
  pub left_out : without R q es ≡ rest

module _ {K V : Type 0} (R : K → K → Ordering) where
  below_left : (x : K) (l : List (K × V)) (e : K × V) (r : List (K × V)) → T (below_all R x (l ++ e ∷ r)) → T (below_all R x l)
  below_left x [] e r h = tt
  below_left x (d ∷ l) e r h = both _ _ (first _ _ h) (below_left x l e r (second _ _ h))

  pub below_middle : (x : K) (l : List (K × V)) (e : K × V) (r : List (K × V)) → T (below_all R x (l ++ e ∷ r)) → R x e.0 ≡ Less
  below_middle x [] e r h = less _ (first _ _ h)
  below_middle x (d ∷ l) e r h = below_middle x l e r (second _ _ h)

  sorted_left : (l : List (K × V)) (e : K × V) (r : List (K × V)) → T (is_sorted R (l ++ e ∷ r)) → T (is_sorted R l)
  sorted_left [] e r h = tt
  sorted_left (d ∷ l) e r h = both _ _ (below_left d.0 l e r (first _ _ h)) (sorted_left l e r (second _ _ h))

  sorted_right : (l : List (K × V)) (e : K × V) (r : List (K × V)) → T (is_sorted R (l ++ e ∷ r)) → T (is_sorted R r)
  sorted_right [] e r h = second _ _ h
  sorted_right (d ∷ l) e r h = sorted_right l e r (second _ _ h)

  pub rise_left : (es l : List (K × V)) (e : K × V) (r : List (K × V)) → es ≡ l ++ e ∷ r → Rise R es → Rise R l
  rise_left es l e r is h = record { rises = sorted_left l e r (subst (Rise R) is h).rises }

  pub rise_right : (es l : List (K × V)) (e : K × V) (r : List (K × V)) → es ≡ l ++ e ∷ r → Rise R es → Rise R r
  rise_right es l e r is h = record { rises = sorted_right l e r (subst (Rise R) is h).rises }

  find_below : (q : K) (es : List (K × V)) → T (below_all R q es) → find R q es ≡ None
  find_below q [] h = refl
  find_below q (e ∷ es) h = ap (λ o. cond (is_eq o) (Some e.1) (find R q es)) (less _ (first _ _ h)) ∙ find_below q es (second _ _ h)

  without_below : (q : K) (es : List (K × V)) → T (below_all R q es) → without R q es ≡ es
  without_below q [] h = refl
  without_below q (e ∷ es) h =
      ap (λ o. cond (not (is_eq o)) (e ∷ without R q es) (without R q es)) (less _ (first _ _ h)) ∙ ap (λ l. e ∷ l) (without_below q es (second _ _ h))

  -- where a key is not found, nothing is left out
  pub without_absent : (q : K) (es : List (K × V)) → find R q es ≡ None → without R q es ≡ es
  without_absent q [] h = refl
  without_absent q (e ∷ es) h =
      elim (is_eq (R q e.0)) as (λ b. cond b (Some e.1) (find R q es) ≡ None → cond (not b) (e ∷ without R q es) (without R q es) ≡ e ∷ es) [
        | true ↦ λ n. absurd (subst T (ap is_some n) tt)
        | false ↦ λ n. ap (λ l. e ∷ l) (without_absent q es n)
      ] h

  -- past an entry with a lesser key
  past : (q : K) (d : K × V) (es : List (K × V)) {value : Option V} {with : V → List (K × V)} {rest : List (K × V)} → R q d.0 ≡ Greater
      → Facts R q es value with rest → Facts R q (d ∷ es) value (λ w. d ∷ with w) (d ∷ rest)
  past q d es p f = record {
    found = ap (λ o. cond (is_eq o) (Some d.1) (find R q es)) p ∙ f.found;
    put_in = λ w. ap (λ o. by_order o ((q, w) ∷ d ∷ es) ((d.0, w) ∷ es) (d ∷ put R q w es)) p ∙ ap (λ l. d ∷ l) (f.put_in w);
    left_out = ap (λ o. cond (not (is_eq o)) (d ∷ without R q es) (without R q es)) p ∙ ap (λ l. d ∷ l) f.left_out;
  }

module _ {K : Type 0} {R : K → K → Ordering} (o : IsTotalOrder R) where
  turned : (x y : K) → R y x ≡ Less → R x y ≡ Greater
  turned x y p = o.antisymm x y ∙ ap ordering_reverse p

  above_tied : (q k d : K) → R d k ≡ Less → R q k ≡ Equal → R q d ≡ Greater
  above_tied q k d p e = o.congr q k d e ∙ turned k d p

  above_greater : (q k d : K) → R d k ≡ Less → R q k ≡ Greater → R q d ≡ Greater
  above_greater q k d p g = turned q d (o.trans d k q p (o.antisymm k q ∙ ap ordering_reverse g))

module _ {K V : Type 0} {R : K → K → Ordering} (o : IsTotalOrder R) where
  pub below_less : (x y : K) (es : List (K × V)) → R x y ≡ Less → T (below_all R y es) → T (below_all R x es)
  below_less x y [] p h = tt
  below_less x y (e ∷ es) p h = both _ _ (is_less _ (o.trans x y e.0 p (less _ (first _ _ h)))) (below_less x y es p (second _ _ h))

  below_tied : (x y : K) (es : List (K × V)) → R x y ≡ Equal → T (below_all R y es) → T (below_all R x es)
  below_tied x y [] p h = tt
  below_tied x y (e ∷ es) p h = both _ _ (is_less _ (o.congr x y e.0 p ∙ less _ (first _ _ h))) (below_tied x y es p (second _ _ h))

  at_less : (q : K) (l : List (K × V)) (e : K × V) (r : List (K × V)) → T (is_sorted R (l ++ e ∷ r)) → R q e.0 ≡ Less
      → Facts R q (l ++ e ∷ r) (find R q l) (λ w. put R q w l ++ e ∷ r) (without R q l ++ e ∷ r)
  at_less q [] e r s p =
      let below = below_less q e.0 r p (first _ _ s) in
      record {
        found = ap (λ t. cond (is_eq t) (Some e.1) (find R q r)) p ∙ find_below R q r below;
        put_in = λ w. ap (λ t. by_order t ((q, w) ∷ e ∷ r) ((e.0, w) ∷ r) (e ∷ put R q w r)) p;
        left_out = ap (λ t. cond (not (is_eq t)) (e ∷ without R q r) (without R q r)) p ∙ ap (λ l. e ∷ l) (without_below R q r below);
      }
  at_less q (d ∷ l) e r s p =
      let f = at_less q l e r (second _ _ s) p in
      let es = l ++ e ∷ r in
      record {
        found = ap (cond (is_eq (R q d.0)) (Some d.1)) f.found;
        put_in = λ w. elim (R q d.0) as (λ t. by_order t ((q, w) ∷ d ∷ es) ((d.0, w) ∷ es) (d ∷ put R q w es) ≡ by_order t ((q, w) ∷ d ∷ l) ((d.0, w) ∷ l) (d ∷ put R q w l) ++ e ∷ r) [
          | Less ↦ refl
          | Equal ↦ refl
          | Greater ↦ ap (λ x. d ∷ x) (f.put_in w)
        ];
        left_out = elim (is_eq (R q d.0)) as (λ b. cond (not b) (d ∷ without R q es) (without R q es) ≡ cond (not b) (d ∷ without R q l) (without R q l) ++ e ∷ r) [
          | true ↦ f.left_out
          | false ↦ ap (λ x. d ∷ x) f.left_out
        ];
      }

  at_equal : (q : K) (l : List (K × V)) (e : K × V) (r : List (K × V)) → T (is_sorted R (l ++ e ∷ r)) → R q e.0 ≡ Equal
      → Facts R q (l ++ e ∷ r) (Some e.1) (λ w. l ++ (e.0, w) ∷ r) (l ++ r)
  at_equal q [] e r s p = record {
    found = ap (λ t. cond (is_eq t) (Some e.1) (find R q r)) p;
    put_in = λ w. ap (λ t. by_order t ((q, w) ∷ e ∷ r) ((e.0, w) ∷ r) (e ∷ put R q w r)) p;
    left_out = ap (λ t. cond (not (is_eq t)) (e ∷ without R q r) (without R q r)) p ∙ without_below R q r (below_tied q e.0 r p (first _ _ s));
  }
  at_equal q (d ∷ l) e r s p = past R q d (l ++ e ∷ r) (above_tied o q e.0 d.0 (below_middle R d.0 l e r (first _ _ s)) p) (at_equal q l e r (second _ _ s) p)

  at_greater : (q : K) (l : List (K × V)) (e : K × V) (r : List (K × V)) → T (is_sorted R (l ++ e ∷ r)) → R q e.0 ≡ Greater
      → Facts R q (l ++ e ∷ r) (find R q r) (λ w. l ++ e ∷ put R q w r) (l ++ e ∷ without R q r)
  at_greater q [] e r s p = past R q e r p (record { found = refl; put_in = λ w. refl; left_out = refl })
  at_greater q (d ∷ l) e r s p = past R q d (l ++ e ∷ r) (above_greater o q e.0 d.0 (below_middle R d.0 l e r (first _ _ s)) p) (at_greater q l e r (second _ _ s) p)

  -- the same of es, which is l, e and r
  pub split_less : (q : K) (es l : List (K × V)) (e : K × V) (r : List (K × V)) → es ≡ l ++ e ∷ r → Rise R es → R q e.0 ≡ Less
      → Facts R q es (find R q l) (λ w. put R q w l ++ e ∷ r) (without R q l ++ e ∷ r)
  split_less q es l e r is h p =
      subst (λ x. Facts R q x (find R q l) (λ w. put R q w l ++ e ∷ r) (without R q l ++ e ∷ r)) (sym is) (at_less q l e r (subst (Rise R) is h).rises p)

  pub split_equal : (q : K) (es l : List (K × V)) (e : K × V) (r : List (K × V)) → es ≡ l ++ e ∷ r → Rise R es → R q e.0 ≡ Equal
      → Facts R q es (Some e.1) (λ w. l ++ (e.0, w) ∷ r) (l ++ r)
  split_equal q es l e r is h p =
      subst (λ x. Facts R q x (Some e.1) (λ w. l ++ (e.0, w) ∷ r) (l ++ r)) (sym is) (at_equal q l e r (subst (Rise R) is h).rises p)

  pub split_greater : (q : K) (es l : List (K × V)) (e : K × V) (r : List (K × V)) → es ≡ l ++ e ∷ r → Rise R es → R q e.0 ≡ Greater
      → Facts R q es (find R q r) (λ w. l ++ e ∷ put R q w r) (l ++ e ∷ without R q r)
  split_greater q es l e r is h p =
      subst (λ x. Facts R q x (find R q r) (λ w. l ++ e ∷ put R q w r) (l ++ e ∷ without R q r)) (sym is) (at_greater q l e r (subst (Rise R) is h).rises p)

  -- where q is on its side, or is the middle one, it is there
  pub there_left : (q : K) (es l : List (K × V)) (e : K × V) (r : List (K × V)) → es ≡ l ++ e ∷ r → R q e.0 ≡ Less → IsThere R q l → IsThere R q es
  there_left q es l e r is p there rise = subst IsSome (sym (split_less q es l e r is rise p).found) (there (rise_left R es l e r is rise))

  pub there_here : (q : K) (es l : List (K × V)) (e : K × V) (r : List (K × V)) → es ≡ l ++ e ∷ r → R q e.0 ≡ Equal → IsThere R q es
  there_here q es l e r is p rise = subst IsSome (sym (split_equal q es l e r is rise p).found) refl

  pub there_right : (q : K) (es l : List (K × V)) (e : K × V) (r : List (K × V)) → es ≡ l ++ e ∷ r → R q e.0 ≡ Greater → IsThere R q r → IsThere R q es
  there_right q es l e r is p there rise = subst IsSome (sym (split_greater q es l e r is rise p).found) (there (rise_right R es l e r is rise))

-- what was found is there
pub found_there : {K V : Type 0} (R : K → K → Ordering) (q : K) (es : List (K × V)) (old : Option (Arc V Global)) (value : Arc V Global) → old ≡ Some value → WasFound R q es old → IsThere R q es
found_there R q es old value is found rise = subst IsSome (ap (option_map arc_value) (sym is) ∙ found rise) refl

-- what holds anyway holds where there was no memory
pub whatever_err : {T E : Type 0} (r : Result T E) (P : Type 0) → P → OnErr r P
whatever_err (Ok x) P p = tt
whatever_err (Err e) P p = p
