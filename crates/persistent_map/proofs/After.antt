-- What an iterator looks up in a list that rises: the first entry after a key, and what comes after that one.
use Rattle.std.proofs.Common.{◌≡◌, Bool, true, false, cond, T, List, [], ◌∷◌, ◌++◌, Bor, unwrap_or, refl, sym, ap, subst, ◌∙◌}
use Rattle.std.specs.declared.cmp.Ordering.{Ordering}
use Rattle.std.specs.declared.cmp.Ordering.TheVariants.{Less, Equal, Greater}
use Rattle.std.specs.declared.option.Option.{Option}
use Rattle.std.specs.declared.option.Option.TheVariants.{None, Some}
use Rattle.std.specs.Ordering.{is_lt}
use Rattle.std.specs.Cmp.{IsTotalOrder, tied_itself}
use Rattle.std.specs.FinMap.{is_sorted}
use Rattle.std.specs.FinMap.Entries.{below_all}
use Rattle.std.specs.Option.{option_map}
use Rattle.persistent_map.specs.declared.node.Node.{Node}
use Rattle.persistent_map.specs.After.{is_after, after, first_of, entry_of}
use Rattle.persistent_map.specs.Order.{Rise}
use Rattle.persistent_map.proofs.Split.{first, second, less, below_middle, below_less}

-- the first of two that is there
abbrev pub or_else : {A : Type 0} → Option A → Option A → Option A
or_else (Some x) other = Some x
or_else None other = other

-- what was found last stands before what was found first
or_else_some : {A : Type 0} (a : Option A) (x : A) (b : Option A) → or_else (or_else a (Some x)) b ≡ or_else a (Some x)
or_else_some (Some y) x b = refl
or_else_some None x b = refl

-- where one was met that comes after the key
pub met_here : {A : Type 0} (whole here left : Option A) (x : A) (found : Option A) → whole ≡ or_else here found → here ≡ or_else left (Some x) → whole ≡ or_else left (Some x)
met_here whole here left x found i e = i ∙ ap (λ a. or_else a found) e ∙ or_else_some left x found

-- where one was met that does not
pub met_early : {A : Type 0} (whole here right found : Option A) → whole ≡ or_else here found → here ≡ right → whole ≡ or_else right found
met_early whole here right found i e = i ∙ ap (λ a. or_else a found) e

some_is : {A : Type 0} (x y : A) → Some x ≡ Some y → x ≡ y
some_is x y e = ap (λ o. unwrap_or o x) e

first_none : {A : Type 0} (xs : List A) → first_of xs ≡ None → xs ≡ []
first_none [] e = refl
first_none (x ∷ xs) e = cc

first_append : {A : Type 0} (xs ys : List A) → first_of (xs ++ ys) ≡ or_else (first_of xs) (first_of ys)
first_append [] ys = refl
first_append (x ∷ xs) ys = refl

not_less : (r : Ordering) → (r ≡ Less → ⊥) → is_lt r ≡ false
not_less Less h = absurd (h refl)
not_less Equal h = refl
not_less Greater h = refl

tested : (r : Ordering) → is_lt r ≡ true → r ≡ Less
tested r t = less r (subst T (sym t) tt)

module _ {K V : Type 0} (R : K → K → Ordering) where
  -- where there is no last key, all come after it
  pub all_after : (es : List (K × V)) → after R None es ≡ es
  all_after [] = refl
  all_after (e ∷ es) = ap (λ l. e ∷ l) (all_after es)

  after_append : (last : Option K) (l m : List (K × V)) → after R last (l ++ m) ≡ after R last l ++ after R last m
  after_append last [] m = refl
  after_append last (d ∷ l) m =
      elim (is_after R last d.0) as (λ b. cond b (d ∷ after R last (l ++ m)) (after R last (l ++ m)) ≡ cond b (d ∷ after R last l) (after R last l) ++ after R last m) [
        | true ↦ ap (λ r. d ∷ r) (after_append last l m)
        | false ↦ after_append last l m
      ]

  -- where an entry comes after the last key, it is the first that does, but for those on its left
  pub here_or_left : (last : Option K) (es l : List (K × V)) (e : K × V) (r : List (K × V)) → es ≡ l ++ e ∷ r → is_after R last e.0 ≡ true
      → first_of (after R last es) ≡ or_else (first_of (after R last l)) (Some e)
  here_or_left last es l e r is t =
      ap (λ (x : List (K × V)). first_of (after R last x)) is
      ∙ ap first_of (after_append last l (e ∷ r))
      ∙ first_append (after R last l) (after R last (e ∷ r))
      ∙ ap (λ b. or_else (first_of (after R last l)) (first_of (cond b (e ∷ after R last r) (after R last r)))) t

  first_by : (last : Option K) (d : K × V) (es : List (K × V)) (e : K × V) (b : Bool) → is_after R last d.0 ≡ b → first_of (cond b (d ∷ after R last es) (after R last es)) ≡ Some e
      → (first_of (after R last es) ≡ Some e → is_after R last e.0 ≡ true) → is_after R last e.0 ≡ true
  first_by last d es e true t f rest = subst (λ (x : K × V). is_after R last x.0 ≡ true) (some_is d e f) t
  first_by last d es e false t f rest = rest f

  first_is_after : (last : Option K) (es : List (K × V)) (e : K × V) → first_of (after R last es) ≡ Some e → is_after R last e.0 ≡ true
  first_is_after last [] e f = cc
  first_is_after last (d ∷ es) e f = first_by last d es e (is_after R last d.0) refl f (first_is_after last es e)

  above : (x : K) (es : List (K × V)) → T (below_all R x es) → after R (Some x) es ≡ es
  above x [] h = refl
  above x (e ∷ es) h =
      ap (λ o. cond (is_lt o) (e ∷ after R (Some x) es) (after R (Some x) es)) (less _ (first _ _ h)) ∙ ap (λ l. e ∷ l) (above x es (second _ _ h))

module _ {K : Type 0} {R : K → K → Ordering} (o : IsTotalOrder R) where
  not_after : (last : Option K) (d e : K) → R d e ≡ Less → is_after R last e ≡ false → is_after R last d ≡ false
  not_after None d e lt late = let h : true ≡ false = late in cc
  not_after (Some q) d e lt late = not_less (R q d) (λ before. let passed : is_lt (R q e) ≡ true = ap is_lt (o.trans q d e before lt) in cc (sym late ∙ passed))

  not_back : (last : Option K) (d e : K) → is_after R last d ≡ false → is_after R last e ≡ true → is_lt (R e d) ≡ false
  not_back None d e late t = let h : true ≡ false = late in cc
  not_back (Some q) d e late t = not_less (R e d) (λ back. let passed : is_lt (R q d) ≡ true = ap is_lt (o.trans q e d (tested (R q e) t) back) in cc (sym late ∙ passed))

module _ {K V : Type 0} {R : K → K → Ordering} (o : IsTotalOrder R) where
  none_left : (last : Option K) (l : List (K × V)) (e : K × V) (r : List (K × V)) → T (is_sorted R (l ++ e ∷ r)) → is_after R last e.0 ≡ false → after R last l ≡ []
  none_left last [] e r s late = refl
  none_left last (d ∷ l) e r s late =
      ap (λ b. cond b (d ∷ after R last l) (after R last l)) (not_after o last d.0 e.0 (below_middle R d.0 l e r (first _ _ s)) late) ∙ none_left last l e r (second _ _ s) late

  -- where an entry does not come after the last key, the first that does is on its right
  pub on_the_right : (last : Option K) (es l : List (K × V)) (e : K × V) (r : List (K × V)) → es ≡ l ++ e ∷ r → Rise R es → is_after R last e.0 ≡ false
      → first_of (after R last es) ≡ first_of (after R last r)
  on_the_right last es l e r is h late =
      ap (λ (x : List (K × V)). first_of (after R last x)) is
      ∙ ap first_of (after_append R last l (e ∷ r) ∙ ap (λ (x : List (K × V)). x ++ after R last (e ∷ r)) (none_left last l e r (subst (Rise R) is h).rises late))
      ∙ ap (λ b. first_of (cond b (e ∷ after R last r) (after R last r))) late

  all_past : (last : Option K) (d : K) (es : List (K × V)) → is_after R last d ≡ true → T (below_all R d es) → after R last es ≡ es
  all_past None d es t h = all_after R es
  all_past (Some q) d es t h = above R q es (below_less o q d es (tested (R q d) t) h)

  step_by : (last : Option K) (d : K × V) (es : List (K × V)) (e : K × V) (b : Bool) → is_after R last d.0 ≡ b → T (below_all R d.0 es)
      → first_of (cond b (d ∷ after R last es) (after R last es)) ≡ Some e
      → (first_of (after R last es) ≡ Some e → after R last es ≡ e ∷ after R (Some e.0) es)
      → cond b (d ∷ after R last es) (after R last es) ≡ e ∷ after R (Some e.0) (d ∷ es)
  step_by last d es e true t h f rest =
      let itself : after R (Some d.0) (d ∷ es) ≡ es = ap (λ r. cond (is_lt r) (d ∷ after R (Some d.0) es) (after R (Some d.0) es)) (tied_itself o d.0) ∙ above R d.0 es h in
      subst (λ (x : K × V). d ∷ after R last es ≡ x ∷ after R (Some x.0) (d ∷ es)) (some_is d e f)
      (ap (λ l. d ∷ l) (all_past last d.0 es t h ∙ sym itself))
  step_by last d es e false t h f rest =
      let back = not_back o last d.0 e.0 t (first_is_after R last es e f) in
      rest f ∙ ap (λ l. e ∷ l) (sym (ap (λ b. cond b (d ∷ after R (Some e.0) es) (after R (Some e.0) es)) back))

  step_sorted : (last : Option K) (es : List (K × V)) (e : K × V) → T (is_sorted R es) → first_of (after R last es) ≡ Some e → after R last es ≡ e ∷ after R (Some e.0) es
  step_sorted last [] e s f = cc
  step_sorted last (d ∷ es) e s f = step_by last d es e (is_after R last d.0) refl (first _ _ s) f (step_sorted last es e (second _ _ s))

  -- after the first entry after a key comes what comes after the entry's own
  pub step : (last : Option K) (es : List (K × V)) (e : K × V) → Rise R es → first_of (after R last es) ≡ Some e → after R last es ≡ e ∷ after R (Some e.0) es
  step last es e h f = step_sorted last es e h.rises f

-- where there is no first, there is none
pub none_after : {K V : Type 0} (R : K → K → Ordering) (last : Option K) (es : List (K × V)) → first_of (after R last es) ≡ None → after R last es ≡ []
none_after R last es e = first_none (after R last es) e

module _ {K V : Type 0} where
  -- where a node was found, its entry is the first
  pub met : (found : Option (Bor (Node K V))) (n : Bor (Node K V)) (whole : Option (K × V)) → option_map (λ m. entry_of m.now) found ≡ whole → found ≡ Some n → whole ≡ Some (entry_of n.now)
  met found n whole e is = sym e ∙ ap (option_map (λ (m : Bor (Node K V)). entry_of m.now)) is
