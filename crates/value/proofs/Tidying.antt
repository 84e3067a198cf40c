-- Entries that are 0 are taken out, and then policies without a name.
use Rattle.std.proofs.Common.{◌≡◌, ◌≢◌, ℕ, ℤ, pos, Bool, true, false, cond, List, [], ◌∷◌, Option, Some, None, refl, sym, ◌∙◌, ap, subst, is_some}
use Rattle.std.specs.Prelude.{bytes_eq}
use Rattle.std.specs.Map.{set_value, remove_entry}
use Rattle.byte_keys.proofs.ForCallers.{has_bytes, lookup_set, set_keeps, bytes_self, bytes_from, bytes_apart}
use Rattle.model.specs.Value.{Token, Policy}
use Rattle.value.specs.declared.amounts.Amounts.{Amounts}
use Rattle.value.specs.declared.amounts.AllAmounts.{AllAmounts}
use Rattle.value.specs.Sums.{or_zero, sum_under, sum_under_any, sum_of, amount_under, amount_in, amounts_of}
use Rattle.value.specs.Touched.{IsNoName, IsNoPolicy, IsNoAsset, KeepsOtherNames, KeepsOthersOf, KeepsOtherAssets, IsTidyAt}
use Rattle.value.specs.Listed.{IsTidy}
use Rattle.value.proofs.Removing.{lookup_removed}
use Rattle.value.proofs.Touching.{TouchedNames, touched_none, touched_more, TouchedAssets, touched_no_policy, touched_more_policies, write_keeps}

-- ---- the names of one policy

-- taking out an entry that is 0 changes no amount
pub out_bit : (b : Bool) (o : Option ℤ) → (b ≡ true → or_zero o ≡ pos 0) → or_zero (cond b None o) ≡ or_zero o
out_bit true o zero = sym (zero refl)
out_bit false o zero = refl

-- all tokens' names but those of the rest are tidy
pub record Tidied {Q : Type 0} (start now : Amounts) (all rest : List (Token Q)) : Type 0 where
  pub same : (name : List ℕ) → amount_under now name ≡ amount_under start name
  pub touched : TouchedNames start now all rest
  pub left : (name : List ℕ) → sum_under now name ≡ Some (pos 0) → IsNoName name rest → IsNoName name all

pub tidied_none : {Q : Type 0} (start : Amounts) (all : List (Token Q)) → Tidied start start all all
tidied_none start all = record { same = λ name. refl; touched = touched_none start all; left = λ name zero no. no }

pub tidied_more : {Q : Type 0} (start now new : Amounts) (all rest : List (Token Q)) (t : Token Q) → Tidied start now all (t ∷ rest)
    → ((q : List ℕ) → amount_under new q ≡ amount_under now q) → ((q : List ℕ) → bytes_eq q t.name ≡ false → sum_under new q ≡ sum_under now q)
    → sum_under new t.name ≢ Some (pos 0) → Tidied start new all rest
tidied_more start now new all rest t before same others left = record {
  same = λ name. same name ∙ before.same name;
  touched = touched_more start now new all rest t before.touched others;
  left = λ name zero no.
      let apart = bytes_apart name t.name (λ e. left (subst (λ (n : List ℕ). sum_under new n ≡ Some (pos 0)) e zero)) in
      before.left name (sym (others name apart) ∙ zero) (apart, no);
}

-- ---- one policy

pub record PolicyTidied {Q : Type 0} (old new : AllAmounts) (p : Policy Q) : Type 0 where
  pub same : (q name : List ℕ) → amount_in new q name ≡ amount_in old q name
  pub others : KeepsOthersOf old new p
  pub left : (name : List ℕ) → sum_of new p.id name ≡ Some (pos 0) → IsNoName name p.tokens
  pub bare : (amounts : Amounts) → amounts_of new p.id ≡ Some amounts → amounts.by_name.entries ≢ []

-- a step under one policy that changes no amount
pub record PolicySame {Q : Type 0} (old new : AllAmounts) (p : Policy Q) : Type 0 where
  pub same : (q name : List ℕ) → amount_in new q name ≡ amount_in old q name
  pub others : KeepsOthersOf old new p

-- the policy has names left
pub policy_tidied : {Q : Type 0} (old new : AllAmounts) (p : Policy Q) (before after : Amounts) → new.by_policy.entries ≡ set_value (has_bytes (λ k. k.bytes) p.id) old.by_policy.entries after
    → amounts_of old p.id ≡ Some before → ((name : List ℕ) → amount_under after name ≡ amount_under before name) → KeepsOtherNames before after p.tokens → PolicySame old new p
policy_tidied old new p before after written found same others = record {
  same = λ q name. rw written (set_keeps (λ k. k.bytes) (λ (o : Option Amounts). or_zero (sum_under_any o name) ≡ amount_in old q name) q p.id old.by_policy.entries after before found (λ h. same name ∙ h) refl);
  others = write_keeps old new p before after written found others;
}

absent_bit : (b : Bool) (name : List ℕ) (after : Amounts) (there : Option Amounts) → (b ≡ true → there ≡ Some after) → after.by_name.entries ≡ []
    → sum_under_any (cond b None there) name ≡ sum_under_any there name
absent_bit true name after there is empty =
    let nothing : sum_under after name ≡ None = rw empty refl in
    sym (ap (λ (o : Option Amounts). sum_under_any o name) (is refl) ∙ nothing)
absent_bit false name after there is empty = refl

-- the policy has none left, and is taken out
pub policy_taken_out : {Q : Type 0} (old now new : AllAmounts) (p : Policy Q) (before after : Amounts) → now.by_policy.entries ≡ set_value (has_bytes (λ k. k.bytes) p.id) old.by_policy.entries after
    → amounts_of old p.id ≡ Some before → ((name : List ℕ) → amount_under after name ≡ amount_under before name) → KeepsOtherNames before after p.tokens
    → after.by_name.entries ≡ [] → new.by_policy.entries ≡ remove_entry (has_bytes (λ k. k.bytes) p.id) now.by_policy.entries → PolicySame old new p
policy_taken_out old now new p before after written found same others empty removed =
    let tidied = policy_tidied old now p before after written found same others in
    let here : amounts_of now p.id ≡ Some after = rw (written, lookup_set (λ k. k.bytes) p.id p.id old.by_policy.entries after (ap is_some found), bytes_self p.id) refl in
    let at : (q : List ℕ) → amounts_of new q ≡ cond (bytes_eq q p.id) None (amounts_of now q) = λ q. rw removed (lookup_removed (λ k. k.bytes) q p.id now.by_policy.entries now.ordered) in
    let sums : (q name : List ℕ) → sum_of new q name ≡ sum_of now q name =
    λ q name. ap (λ (o : Option Amounts). sum_under_any o name) (at q)
    ∙ absent_bit (bytes_eq q p.id) name after (amounts_of now q) (λ h. subst (λ (b : List ℕ). amounts_of now b ≡ Some after) (sym (bytes_from q p.id h)) here) empty in
    record {
      same = λ q name. ap or_zero (sums q name) ∙ tidied.same q name;
      others = record {
        names = λ id name no. sums id name ∙ tidied.others.names id name no;
        policies = λ id apart. rw (at id, apart) (tidied.others.policies id apart);
      };
    }

pub no_sum : {X : Type 0} {z : X} (o : Option X) → o ≡ None → o ≡ Some z → ⊥
no_sum o none some = let no : false ≡ true = ap is_some (sym none ∙ some) in cc

-- the policy had no sums
pub absent_left : {Q : Type 0} (o : Option Amounts) (tokens : List (Token Q)) → o ≡ None → (name : List ℕ) → sum_under_any o name ≡ Some (pos 0) → IsNoName name tokens
absent_left o tokens none name zero = absurd (no_sum (sum_under_any o name) (ap (λ (o : Option Amounts). sum_under_any o name) none) zero)

-- ---- all policies

-- all policies but the rest are tidy
pub record TidiedAll {Q : Type 0} (start now : AllAmounts) (all rest : List (Policy Q)) : Type 0 where
  pub same : (policy name : List ℕ) → amount_in now policy name ≡ amount_in start policy name
  pub touched : TouchedAssets start now all rest
  pub left : (policy name : List ℕ) → sum_of now policy name ≡ Some (pos 0) → IsNoAsset policy name rest → IsNoAsset policy name all
  pub bare : (policy : List ℕ) (amounts : Amounts) → amounts_of now policy ≡ Some amounts → amounts.by_name.entries ≡ [] → IsNoPolicy policy rest → IsNoPolicy policy all

pub tidied_no_policy : {Q : Type 0} (start : AllAmounts) (all : List (Policy Q)) → TidiedAll start start all all
tidied_no_policy start all = record {
  same = λ policy name. refl;
  touched = touched_no_policy start all;
  left = λ policy name zero no. no;
  bare = λ policy amounts is empty no. no;
}

pub tidied_more_policies : {Q : Type 0} (start now new : AllAmounts) (all rest : List (Policy Q)) (p : Policy Q) → TidiedAll start now all (p ∷ rest) → PolicyTidied now new p → TidiedAll start new all rest
tidied_more_policies start now new all rest p before tidied = record {
  same = λ policy name. tidied.same policy name ∙ before.same policy name;
  touched = touched_more_policies start now new all rest p before.touched tidied.others;
  left = λ policy name zero no.
      let here : bytes_eq policy p.id ≡ true → IsNoName name p.tokens =
      λ h. tidied.left name (subst (λ (q : List ℕ). sum_of new q name ≡ Some (pos 0)) (bytes_from policy p.id h) zero) in
      before.left policy name (sym (tidied.others.names policy name here) ∙ zero) (here, no);
  bare = λ policy amounts is empty no.
      let apart = bytes_apart policy p.id (λ e. tidied.bare amounts (subst (λ (q : List ℕ). amounts_of new q ≡ Some amounts) e is) empty) in
      before.bare policy amounts (sym (tidied.others.policies policy apart) ∙ is) empty (apart, no);
}

-- ---- what is kept is tidy

-- where there is nothing
pub nothing_tidy : (all : AllAmounts) → ((policy : List ℕ) → amounts_of all policy ≡ None) → IsTidy all
nothing_tidy all none = record {
  sums = λ policy name is. no_sum (sum_of all policy name) (ap (λ (o : Option Amounts). sum_under_any o name) (none policy)) is;
  names = λ policy amounts is. absurd (no_sum (amounts_of all policy) (none policy) is);
}

-- after a change of some assets that leaves none of them untidy
pub tidy_after : {Q : Type 0} (old new : AllAmounts) (ps : List (Policy Q)) → IsTidy old → KeepsOtherAssets old new ps → IsTidyAt new ps → IsTidy new
tidy_after old new ps tidy keeps left = record {
  sums = λ policy name zero. tidy.sums policy name (sym (keeps.names policy name (left.sums policy name zero)) ∙ zero);
  names = λ policy amounts is empty. tidy.names policy amounts (sym (keeps.policies policy (left.names policy amounts is empty)) ∙ is) empty;
}
