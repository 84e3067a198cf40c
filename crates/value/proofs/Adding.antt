-- Sums that grow by what tokens have.
use Rattle.std.proofs.Common.{◌≡◌, ◌≢◌, ℕ, ℤ, pos, ◌+ℤ◌, ◌^◌, ◌+◌, Bool, true, false, cond, List, [], ◌∷◌, Option, Some, None, refl, sym, ◌∙◌, ap, subst, arith, is_some}
use Rattle.std.specs.Prelude.{bytes_eq, IsSome}
use Rattle.std.specs.List.{AllByRecursion}
use Rattle.std.proofs.lemmas.Int.{ints}
use Rattle.model.specs.Value.{Token, Policy, named_amount, policy_amount}
use Rattle.value.specs.Quantities.{IsWithin, quantity_limit}
use Rattle.value.specs.Differing.{NamesDiffer, PoliciesDiffer}
use Rattle.value.specs.Sums.{or_zero, sum_under, sum_under_any, amount_under, amount_in, amounts_of, HasAll, HasPolicy, AreBounded}
use Rattle.value.specs.declared.amounts.Amounts.{Amounts}
use Rattle.value.specs.declared.amounts.AllAmounts.{AllAmounts}
use Rattle.value.specs.Sides.{sided}
use Rattle.value.specs.declared.side.Side.{Side}
use Rattle.value.specs.declared.side.Side.TheVariants.{Added, Taken}
use Rattle.value.proofs.Lists.{all_map, all_both, all_any}
use Rattle.value.specs.Touched.{KeepsOtherNames, KeepsOthersOf}
use Rattle.value.proofs.Touching.{TouchedNames, touched_none, touched_more, TouchedAssets, touched_no_policy, touched_more_policies, write_keeps, keeps_all}
use Rattle.byte_keys.proofs.ForCallers.{has_bytes, bytes_from, bytes_apart}
use Rattle.value.proofs.Sums.{put_amount}
use Rattle.std.specs.Map.{set_value}

-- ---- whole numbers

pub sided_add : (s : Side) (x y : ℤ) → sided s (x +ℤ y) ≡ sided s x +ℤ sided s y
sided_add Added x y = refl
sided_add Taken x y = omega (arith, ints)

pub sided_zero : (s : Side) → sided s (pos 0) ≡ pos 0
sided_zero Added = refl
sided_zero Taken = refl

pub within_zero : IsWithin quantity_limit (pos 0)
within_zero = record { low = omega (arith, ints); high = omega (arith, ints) }

pub sided_within : (s : Side) (limit : ℕ) (z : ℤ) → IsWithin limit z → IsWithin limit (sided s z)
sided_within Added limit z h = h
sided_within Taken limit z h = record { low = omega (arith, ints); high = omega (arith, ints) }

pub within_more : (m n : ℕ) (x y : ℤ) → IsWithin m x → IsWithin n y → IsWithin (m + n) (x +ℤ y)
within_more m n x y h k = record { low = omega (arith, ints); high = omega (arith, ints) }

plus_zero : (x : ℤ) → x +ℤ pos 0 ≡ x
plus_zero x = omega (arith, ints)

zero_plus : (x : ℤ) → pos 0 +ℤ x ≡ x
zero_plus x = omega (arith, ints)

-- what was added before and what still is
regroup : (new now by rest before all : ℤ) → now +ℤ (by +ℤ rest) ≡ before +ℤ all → new ≡ now +ℤ by → new +ℤ rest ≡ before +ℤ all
regroup new now by rest before all h e = omega (arith, ints)

no_change : (b : Bool) (now by new : ℤ) → (b ≡ true → ⊥) → new ≡ now +ℤ cond b by (pos 0) → new ≡ now
no_change true now by new apart e = absurd (apart refl)
no_change false now by new apart e = e ∙ plus_zero now

nothing_if : (b : Bool) (x : ℤ) → x ≡ x +ℤ cond b (pos 0) (pos 0)
nothing_if true x = sym (plus_zero x)
nothing_if false x = sym (plus_zero x)

-- what one token or policy changes, for one side
sided_if : (s : Side) (b : Bool) (x : ℤ) → cond b (sided s x) (pos 0) ≡ sided s (cond b x (pos 0))
sided_if s true x = refl
sided_if s false x = sym (sided_zero s)

-- ---- one token

module _ {Q : Type 0} (whole : Q → ℤ) where
  -- one token more of those that are added
  pub sum_step : (s : Side) (name : List ℕ) (t : Token Q) (ts : List (Token Q)) (new now before all : ℤ)
      → now +ℤ sided s (named_amount whole name (t ∷ ts)) ≡ before +ℤ all
      → new ≡ now +ℤ cond (bytes_eq name t.name) (sided s (whole t.quantity)) (pos 0)
      → new +ℤ sided s (named_amount whole name ts) ≡ before +ℤ all
  sum_step s name t ts new now before all h e =
      let here = cond (bytes_eq name t.name) (whole t.quantity) (pos 0) in
      regroup new now (sided s here) (sided s (named_amount whole name ts)) before all
      (ap (λ (x : ℤ). now +ℤ x) (sym (sided_add s here (named_amount whole name ts))) ∙ h)
      (e ∙ ap (λ (x : ℤ). now +ℤ x) (sided_if s (bytes_eq name t.name) (whole t.quantity)))

-- ---- the tokens of one policy

-- the sums while tokens are added: all but the rest were
pub record Changing {Q : Type 0} (whole : Q → ℤ) (s : Side) (start now : Amounts) (all rest : List (Token Q)) : Type 0 where
  pub sums : (name : List ℕ) → amount_under now name +ℤ sided s (named_amount whole name rest) ≡ amount_under start name +ℤ sided s (named_amount whole name all)
  pub present : HasAll now rest
  pub room : AllByRecursion (λ t. IsWithin (2 ^ 126) (amount_under now t.name)) rest
  pub differ : NamesDiffer rest
  pub bounded : AreBounded whole rest → AreBounded whole all
  pub touched : TouchedNames start now all rest

module _ {Q : Type 0} (whole : Q → ℤ) where
  pub changing_none : (s : Side) (start : Amounts) (all : List (Token Q)) → HasAll start all → ((name : List ℕ) → IsWithin (2 ^ 126) (amount_under start name)) → NamesDiffer all → Changing whole s start start all all
  changing_none s start all present room differ = record {
    sums = λ name. refl;
    present = present;
    room = all_any (λ t. IsWithin (2 ^ 126) (amount_under start t.name)) all (λ t. room t.name);
    differ = differ;
    bounded = λ h. h;
    touched = touched_none start all;
  }

  pub changing_more : (s : Side) (start now new : Amounts) (all rest : List (Token Q)) (t : Token Q) → Changing whole s start now all (t ∷ rest)
      → ((name : List ℕ) → amount_under new name ≡ amount_under now name +ℤ cond (bytes_eq name t.name) (sided s (whole t.quantity)) (pos 0))
      → ((name : List ℕ) → IsSome (sum_under now name) → IsSome (sum_under new name)) → IsWithin quantity_limit (whole t.quantity)
      → ((q : List ℕ) → bytes_eq q t.name ≡ false → sum_under new q ≡ sum_under now q) → Changing whole s start new all rest
  changing_more s start now new all rest t before sums kept bounded others = record {
    sums = λ name. sum_step whole s name t rest (amount_under new name) (amount_under now name) (amount_under start name) (sided s (named_amount whole name all)) (before.sums name) (sums name);
    present = all_map (λ u. IsSome (sum_under now u.name)) (λ u. IsSome (sum_under new u.name)) rest (λ u. kept u.name) before.present.1;
    room = all_both (λ u. u.name ≢ t.name) (λ u. IsWithin (2 ^ 126) (amount_under now u.name)) (λ u. IsWithin (2 ^ 126) (amount_under new u.name)) rest
        (λ u apart room. subst (IsWithin (2 ^ 126)) (sym (no_change (bytes_eq u.name t.name) (amount_under now u.name) (sided s (whole t.quantity)) (amount_under new u.name) (λ h. apart (bytes_from u.name t.name h)) (sums u.name))) room)
        before.differ.0 before.room.1;
    differ = before.differ.1;
    bounded = λ h. before.bounded (bounded, h);
    touched = touched_more start now new all rest t before.touched others;
  }

  pub changing_all : (s : Side) (start now : Amounts) (all : List (Token Q)) → Changing whole s start now all [] → (name : List ℕ) → amount_under now name ≡ amount_under start name +ℤ sided s (named_amount whole name all)
  changing_all s start now all done name = sym (ap (λ (x : ℤ). amount_under now name +ℤ x) (sided_zero s) ∙ plus_zero (amount_under now name)) ∙ done.sums name

-- ---- all policies

-- the sums while policies are added: all but the rest were
pub record ChangingAll {Q : Type 0} (whole : Q → ℤ) (s : Side) (start now : AllAmounts) (all rest : List (Policy Q)) : Type 0 where
  pub sums : (policy name : List ℕ) → amount_in now policy name +ℤ sided s (policy_amount whole policy name rest) ≡ amount_in start policy name +ℤ sided s (policy_amount whole policy name all)
  pub present : AllByRecursion (HasPolicy now) rest
  pub room : AllByRecursion (λ p. (name : List ℕ) → IsWithin (2 ^ 126) (amount_in now p.id name)) rest
  pub differ : PoliciesDiffer rest
  pub bounded : AllByRecursion (λ p. AreBounded whole p.tokens) rest → AllByRecursion (λ p. AreBounded whole p.tokens) all
  pub touched : TouchedAssets start now all rest

-- what a write under one policy changes
pub record PolicyChanges {Q : Type 0} (old new : AllAmounts) (p : Policy Q) (by : List ℕ → ℤ) : Type 0 where
  pub sums : (policy name : List ℕ) → amount_in new policy name ≡ amount_in old policy name +ℤ cond (bytes_eq policy p.id) (by name) (pos 0)
  pub others : KeepsOthersOf old new p

pub policy_written : {Q : Type 0} (old new : AllAmounts) (p : Policy Q) (by : List ℕ → ℤ) (before after : Amounts) → new.by_policy.entries ≡ set_value (has_bytes (λ k. k.bytes) p.id) old.by_policy.entries after
    → amounts_of old p.id ≡ Some before → ((name : List ℕ) → amount_under after name ≡ amount_under before name +ℤ by name) → KeepsOtherNames before after p.tokens → PolicyChanges old new p by
policy_written old new p by before after written found sums others = record {
  sums = λ policy name. rw written (put_amount (λ k. k.bytes) (λ (o : Option Amounts). or_zero (sum_under_any o name)) policy p.id old.by_policy.entries after before (by name) found (sums name));
  others = write_keeps old new p before after written found others;
}

-- what has no sums has no tokens to add
pub no_tokens : {Q : Type 0} (tokens : List (Token Q)) → AllByRecursion (λ t. IsSome (sum_under_any None t.name)) tokens → tokens ≡ []
no_tokens [] has = refl
no_tokens (t ∷ ts) has = let no : is_some {T = ℤ} None ≡ true = has.0 in cc

pub policy_unwritten : {Q : Type 0} (whole : Q → ℤ) (s : Side) (old new : AllAmounts) (p : Policy Q) → p.tokens ≡ [] → ((q : List ℕ) → amounts_of new q ≡ amounts_of old q)
    → PolicyChanges old new p (λ name. sided s (named_amount whole name p.tokens))
policy_unwritten {Q} whole s old new p none same = record {
  sums = λ policy name.
      let nothing : sided s (named_amount whole name p.tokens) ≡ pos 0 = ap (λ (ts : List (Token Q)). sided s (named_amount whole name ts)) none ∙ sided_zero s in
      ap (λ (o : Option Amounts). or_zero (sum_under_any o name)) (same policy) ∙ rw nothing (nothing_if (bytes_eq policy p.id) (amount_in old policy name));
  others = keeps_all old new p same;
}

module _ {Q : Type 0} (whole : Q → ℤ) where
  pub changing_no_policy : (s : Side) (start : AllAmounts) (all : List (Policy Q)) → AllByRecursion (HasPolicy start) all → ((policy name : List ℕ) → IsWithin (2 ^ 126) (amount_in start policy name)) → PoliciesDiffer all
      → ChangingAll whole s start start all all
  changing_no_policy s start all present room differ = record {
    sums = λ policy name. refl;
    present = present;
    room = all_any (λ p. (name : List ℕ) → IsWithin (2 ^ 126) (amount_in start p.id name)) all (λ p. room p.id);
    differ = differ;
    bounded = λ h. h;
    touched = touched_no_policy start all;
  }

  -- one policy more of those that are added
  policy_step : (s : Side) (policy name : List ℕ) (p : Policy Q) (ps : List (Policy Q)) (new now before all : ℤ)
      → now +ℤ sided s (policy_amount whole policy name (p ∷ ps)) ≡ before +ℤ all
      → new ≡ now +ℤ cond (bytes_eq policy p.id) (sided s (named_amount whole name p.tokens)) (pos 0)
      → new +ℤ sided s (policy_amount whole policy name ps) ≡ before +ℤ all
  policy_step s policy name p ps new now before all h e =
      let here = cond (bytes_eq policy p.id) (named_amount whole name p.tokens) (pos 0) in
      regroup new now (sided s here) (sided s (policy_amount whole policy name ps)) before all
      (ap (λ (x : ℤ). now +ℤ x) (sym (sided_add s here (policy_amount whole policy name ps))) ∙ h)
      (e ∙ ap (λ (x : ℤ). now +ℤ x) (sided_if s (bytes_eq policy p.id) (named_amount whole name p.tokens)))

  pub changing_more_policies : (s : Side) (start now new : AllAmounts) (all rest : List (Policy Q)) (p : Policy Q) → ChangingAll whole s start now all (p ∷ rest)
      → ((policy name : List ℕ) → amount_in new policy name ≡ amount_in now policy name +ℤ cond (bytes_eq policy p.id) (sided s (named_amount whole name p.tokens)) (pos 0))
      → KeepsOthersOf now new p → AreBounded whole p.tokens → ChangingAll whole s start new all rest
  changing_more_policies s start now new all rest p before sums others bounded = record {
    sums = λ policy name. policy_step s policy name p rest (amount_in new policy name) (amount_in now policy name) (amount_in start policy name) (sided s (policy_amount whole policy name all)) (before.sums policy name) (sums policy name);
    present = all_both (λ u. u.id ≢ p.id) (HasPolicy now) (HasPolicy new) rest
        (λ u apart has. subst (λ (o : Option Amounts). AllByRecursion (λ t. IsSome (sum_under_any o t.name)) u.tokens) (sym (others.policies u.id (bytes_apart u.id p.id apart))) has)
        before.differ.1 before.present.1;
    room = all_both (λ u. u.id ≢ p.id) (λ u. (name : List ℕ) → IsWithin (2 ^ 126) (amount_in now u.id name)) (λ u. (name : List ℕ) → IsWithin (2 ^ 126) (amount_in new u.id name)) rest
        (λ u apart room name. subst (λ (o : Option Amounts). IsWithin (2 ^ 126) (or_zero (sum_under_any o name))) (sym (others.policies u.id (bytes_apart u.id p.id apart))) (room name))
        before.differ.1 before.room.1;
    differ = before.differ.2;
    bounded = λ h. before.bounded (bounded, h);
    touched = touched_more_policies start now new all rest p before.touched others;
  }

  pub changing_all_policies : (s : Side) (start now : AllAmounts) (all : List (Policy Q)) → ChangingAll whole s start now all [] → (policy name : List ℕ)
      → amount_in now policy name ≡ amount_in start policy name +ℤ sided s (policy_amount whole policy name all)
  changing_all_policies s start now all done policy name = sym (ap (λ (x : ℤ). amount_in now policy name +ℤ x) (sided_zero s) ∙ plus_zero (amount_in now policy name)) ∙ done.sums policy name

  -- ---- what all of a value may change

  -- a name that no token has
  unmet : (name : List ℕ) (tokens : List (Token Q)) → AllByRecursion (λ u. bytes_eq name u.name ≡ false) tokens → named_amount whole name tokens ≡ pos 0
  unmet name [] none = refl
  unmet name (t ∷ ts) none = rw (none.0) (ap (λ (x : ℤ). pos 0 +ℤ x) (unmet name ts none.1))

  one_name : (name : List ℕ) (t : Token Q) (ts : List (Token Q)) (b : Bool) → b ≡ bytes_eq name t.name → AllByRecursion (λ u. u.name ≢ t.name) ts
      → IsWithin quantity_limit (whole t.quantity) → IsWithin quantity_limit (named_amount whole name ts) → IsWithin quantity_limit (cond b (whole t.quantity) (pos 0) +ℤ named_amount whole name ts)
  one_name name t ts true is apart here there =
      let none : AllByRecursion (λ u. bytes_eq name u.name ≡ false) ts =
      all_map (λ u. u.name ≢ t.name) (λ u. bytes_eq name u.name ≡ false) ts (λ u differ. bytes_apart name u.name (λ e. differ (sym e ∙ bytes_from name t.name (sym is)))) apart in
      subst (IsWithin quantity_limit) (sym (ap (λ (x : ℤ). whole t.quantity +ℤ x) (unmet name ts none) ∙ plus_zero (whole t.quantity))) here
  one_name name t ts false is apart here there = subst (IsWithin quantity_limit) (sym (zero_plus (named_amount whole name ts))) there

  -- where names differ, a name has one quantity
  pub named_within : (name : List ℕ) (tokens : List (Token Q)) → NamesDiffer tokens → AreBounded whole tokens → IsWithin quantity_limit (named_amount whole name tokens)
  named_within name [] differ bounded = within_zero
  named_within name (t ∷ ts) differ bounded = one_name name t ts (bytes_eq name t.name) refl differ.0 bounded.0 (named_within name ts differ.1 bounded.1)

  no_policy : (policy name : List ℕ) (ps : List (Policy Q)) → AllByRecursion (λ u. bytes_eq policy u.id ≡ false) ps → policy_amount whole policy name ps ≡ pos 0
  no_policy policy name [] none = refl
  no_policy policy name (p ∷ ps) none = rw (none.0) (ap (λ (x : ℤ). pos 0 +ℤ x) (no_policy policy name ps none.1))

  one_policy : (policy name : List ℕ) (p : Policy Q) (ps : List (Policy Q)) (b : Bool) → b ≡ bytes_eq policy p.id → AllByRecursion (λ u. u.id ≢ p.id) ps
      → IsWithin quantity_limit (named_amount whole name p.tokens) → IsWithin quantity_limit (policy_amount whole policy name ps) → IsWithin quantity_limit (cond b (named_amount whole name p.tokens) (pos 0) +ℤ policy_amount whole policy name ps)
  one_policy policy name p ps true is apart here there =
      let none : AllByRecursion (λ u. bytes_eq policy u.id ≡ false) ps =
      all_map (λ u. u.id ≢ p.id) (λ u. bytes_eq policy u.id ≡ false) ps (λ u differ. bytes_apart policy u.id (λ e. differ (sym e ∙ bytes_from policy p.id (sym is)))) apart in
      subst (IsWithin quantity_limit) (sym (ap (λ (x : ℤ). named_amount whole name p.tokens +ℤ x) (no_policy policy name ps none) ∙ plus_zero (named_amount whole name p.tokens))) here
  one_policy policy name p ps false is apart here there = subst (IsWithin quantity_limit) (sym (zero_plus (policy_amount whole policy name ps))) there

  -- where policies differ too, an asset has one quantity
  pub policies_within : (policy name : List ℕ) (ps : List (Policy Q)) → PoliciesDiffer ps → AllByRecursion (λ p. AreBounded whole p.tokens) ps → IsWithin quantity_limit (policy_amount whole policy name ps)
  policies_within policy name [] differ bounded = within_zero
  policies_within policy name (p ∷ ps) differ bounded = one_policy policy name p ps (bytes_eq policy p.id) refl differ.1 (named_within name p.tokens differ.0 bounded.0) (policies_within policy name ps differ.2 bounded.1)
