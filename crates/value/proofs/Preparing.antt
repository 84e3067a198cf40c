-- Room is made for one token, or one policy, after the other.
use Rattle.std.proofs.Common.{◌≡◌, ℕ, false, List, ◌∷◌, Option, Some, refl, sym, ◌∙◌, ap, subst, is_some}
use Rattle.std.specs.Prelude.{bytes_eq, IsSome}
use Rattle.std.specs.List.{AllByRecursion}
use Rattle.value.proofs.Lists.{all_map}
use Rattle.value.specs.Touched.{KeepsOthersOf}
use Rattle.value.proofs.Touching.{TouchedNames, touched_none, touched_more, TouchedAssets, touched_no_policy, touched_more_policies}
use Rattle.byte_keys.proofs.ForCallers.{has_bytes, lookup_set, set_keeps, bytes_self}
use Rattle.std.specs.Map.{set_value}
use Rattle.model.specs.Value.{Token, Policy}
use Rattle.value.specs.declared.amounts.Amounts.{Amounts}
use Rattle.value.specs.declared.amounts.AllAmounts.{AllAmounts}
use Rattle.value.specs.Sums.{or_zero, sum_under, sum_under_any, sum_of, amount_under, amount_in, amounts_of, HasAll, HasPolicy}

-- ---- the names of one policy

-- what has a sum before has one after
abbrev pub Keeps : Amounts → Amounts → Type 0
Keeps before after = (name : List ℕ) → IsSome (sum_under before name) → IsSome (sum_under after name)

-- all tokens but the rest have sums, and no amount changed
pub record Prepared {Q : Type 0} (start now : Amounts) (all rest : List (Token Q)) : Type 0 where
  pub same : (name : List ℕ) → amount_under now name ≡ amount_under start name
  pub kept : Keeps start now
  pub present : (after : Amounts) → Keeps now after → HasAll after rest → HasAll after all
  pub touched : TouchedNames start now all rest

pub prepared_none : {Q : Type 0} (start : Amounts) (all : List (Token Q)) → Prepared start start all all
prepared_none start all = record { same = λ name. refl; kept = λ name h. h; present = λ after kept h. h; touched = touched_none start all }

pub prepared_more : {Q : Type 0} (start now new : Amounts) (all rest : List (Token Q)) (t : Token Q) → Prepared start now all (t ∷ rest)
    → ((name : List ℕ) → amount_under new name ≡ amount_under now name) → Keeps now new → IsSome (sum_under new t.name)
    → ((q : List ℕ) → bytes_eq q t.name ≡ false → sum_under new q ≡ sum_under now q) → Prepared start new all rest
prepared_more start now new all rest t before same kept found others = record {
  same = λ name. same name ∙ before.same name;
  kept = λ name h. kept name (before.kept name h);
  present = λ after keeps h. before.present after (λ name k. keeps name (kept name k)) (keeps t.name found, h);
  touched = touched_more start now new all rest t before.touched others;
}

-- ---- all policies

abbrev pub KeepsAll : AllAmounts → AllAmounts → Type 0
KeepsAll before after = (policy name : List ℕ) → IsSome (sum_of before policy name) → IsSome (sum_of after policy name)

-- all policies but the rest have sums, and no amount changed
pub record PreparedAll {Q : Type 0} (start now : AllAmounts) (all rest : List (Policy Q)) : Type 0 where
  pub same : (policy name : List ℕ) → amount_in now policy name ≡ amount_in start policy name
  pub present : (after : AllAmounts) → KeepsAll now after → AllByRecursion (HasPolicy after) rest → AllByRecursion (HasPolicy after) all
  pub touched : TouchedAssets start now all rest

pub prepared_no_policy : {Q : Type 0} (start : AllAmounts) (all : List (Policy Q)) → PreparedAll start start all all
prepared_no_policy start all = record { same = λ policy name. refl; present = λ after kept h. h; touched = touched_no_policy start all }

pub prepared_more_policies : {Q : Type 0} (start now new : AllAmounts) (all rest : List (Policy Q)) (p : Policy Q) → PreparedAll start now all (p ∷ rest)
    → ((policy name : List ℕ) → amount_in new policy name ≡ amount_in now policy name) → KeepsAll now new → HasPolicy new p → KeepsOthersOf now new p → PreparedAll start new all rest
prepared_more_policies start now new all rest p before same kept found others = record {
  same = λ policy name. same policy name ∙ before.same policy name;
  present = λ after keeps h. before.present after (λ policy name k. keeps policy name (kept policy name k))
      (all_map (λ t. IsSome (sum_of new p.id t.name)) (λ t. IsSome (sum_of after p.id t.name)) p.tokens (λ t. keeps p.id t.name) found, h);
  touched = touched_more_policies start now new all rest p before.touched others;
}

-- a write under one policy that changes no amount and keeps what has a sum
pub record PolicyKept (old new : AllAmounts) (id : List ℕ) (after : Amounts) : Type 0 where
  pub same : (policy name : List ℕ) → amount_in new policy name ≡ amount_in old policy name
  pub kept : KeepsAll old new
  pub found : amounts_of new id ≡ Some after

pub policy_kept : (old new : AllAmounts) (id : List ℕ) (before after : Amounts) → new.by_policy.entries ≡ set_value (has_bytes (λ k. k.bytes) id) old.by_policy.entries after
    → amounts_of old id ≡ Some before → ((name : List ℕ) → amount_under after name ≡ amount_under before name) → Keeps before after → PolicyKept old new id after
policy_kept old new id before after written found same kept = record {
  same = λ policy name. rw written (set_keeps (λ k. k.bytes) (λ (o : Option Amounts). or_zero (sum_under_any o name) ≡ amount_in old policy name) policy id old.by_policy.entries after before found (λ h. same name ∙ h) refl);
  kept = λ policy name h. rw written (set_keeps (λ k. k.bytes) (λ (o : Option Amounts). IsSome (sum_under_any o name)) policy id old.by_policy.entries after before found (kept name) h);
  found = rw (written, lookup_set (λ k. k.bytes) id id old.by_policy.entries after (ap is_some found), bytes_self id) refl;
}

-- the policy's tokens have sums in what was written
pub policy_present : {Q : Type 0} (all : AllAmounts) (p : Policy Q) (after : Amounts) → amounts_of all p.id ≡ Some after → HasAll after p.tokens → HasPolicy all p
policy_present all p after found has = subst (λ (o : Option Amounts). AllByRecursion (λ t. IsSome (sum_under_any o t.name)) p.tokens) (sym found) has
