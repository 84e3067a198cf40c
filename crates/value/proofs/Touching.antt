-- A walk over tokens, or over policies, leaves what it has no names of as it was.
use Rattle.std.proofs.Common.{◌≡◌, ℕ, Bool, true, false, cond, List, ◌∷◌, Option, Some, refl, sym, ◌∙◌, ap, subst, is_some}
use Rattle.std.specs.Prelude.{bytes_eq}
use Rattle.std.specs.Map.{set_value}
use Rattle.byte_keys.proofs.ForCallers.{has_bytes, lookup_set, set_apart, bytes_from}
use Rattle.model.specs.Value.{Token, Policy}
use Rattle.value.specs.declared.amounts.Amounts.{Amounts}
use Rattle.value.specs.declared.amounts.AllAmounts.{AllAmounts}
use Rattle.value.specs.Sums.{sum_under, sum_under_any, sum_of, amounts_of}
use Rattle.value.specs.Touched.{IsNoName, IsNoPolicy, IsNoAsset, KeepsOtherNames, KeepsOthersOf, KeepsOtherAssets}

-- ---- the names of one policy

-- a walk over all tokens but the rest
pub record TouchedNames {Q : Type 0} (start now : Amounts) (all rest : List (Token Q)) : Type 0 where
  pub others : KeepsOtherNames start now all
  pub within : (name : List ℕ) → IsNoName name all → IsNoName name rest

pub touched_none : {Q : Type 0} (start : Amounts) (all : List (Token Q)) → TouchedNames start start all all
touched_none start all = record { others = λ name no. refl; within = λ name no. no }

pub touched_more : {Q : Type 0} (start now new : Amounts) (all rest : List (Token Q)) (t : Token Q) → TouchedNames start now all (t ∷ rest)
    → ((q : List ℕ) → bytes_eq q t.name ≡ false → sum_under new q ≡ sum_under now q) → TouchedNames start new all rest
touched_more start now new all rest t before others = record {
  others = λ name no. others name ((before.within name no).0) ∙ before.others name no;
  within = λ name no. (before.within name no).1;
}

-- ---- all policies

-- a walk over all policies but the rest
pub record TouchedAssets {Q : Type 0} (start now : AllAmounts) (all rest : List (Policy Q)) : Type 0 where
  pub others : KeepsOtherAssets start now all
  pub within_assets : (id name : List ℕ) → IsNoAsset id name all → IsNoAsset id name rest
  pub within_policies : (id : List ℕ) → IsNoPolicy id all → IsNoPolicy id rest

pub touched_no_policy : {Q : Type 0} (start : AllAmounts) (all : List (Policy Q)) → TouchedAssets start start all all
touched_no_policy start all = record {
  others = record { names = λ id name no. refl; policies = λ id no. refl };
  within_assets = λ id name no. no;
  within_policies = λ id no. no;
}

pub touched_more_policies : {Q : Type 0} (start now new : AllAmounts) (all rest : List (Policy Q)) (p : Policy Q) → TouchedAssets start now all (p ∷ rest)
    → KeepsOthersOf now new p → TouchedAssets start new all rest
touched_more_policies start now new all rest p before others = record {
  others = record {
    names = λ id name no. others.names id name ((before.within_assets id name no).0) ∙ before.others.names id name no;
    policies = λ id no. others.policies id ((before.within_policies id no).0) ∙ before.others.policies id no;
  };
  within_assets = λ id name no. (before.within_assets id name no).1;
  within_policies = λ id no. (before.within_policies id no).1;
}

-- one walk after the other
pub both_keep : {Q : Type 0} (start now new : AllAmounts) (ps : List (Policy Q)) → KeepsOtherAssets start now ps → KeepsOtherAssets now new ps → KeepsOtherAssets start new ps
both_keep start now new ps first then_ = record {
  names = λ id name no. then_.names id name no ∙ first.names id name no;
  policies = λ id no. then_.policies id no ∙ first.policies id no;
}

-- ---- a write under one policy

write_bit : (b : Bool) (name : List ℕ) (after before : Amounts) (there : Option Amounts) → (b ≡ true → there ≡ Some before) → (b ≡ true → sum_under after name ≡ sum_under before name)
    → sum_under_any (cond b (Some after) there) name ≡ sum_under_any there name
write_bit true name after before there is same = same refl ∙ ap (λ (o : Option Amounts). sum_under_any o name) (sym (is refl))
write_bit false name after before there is same = refl

pub write_keeps : {Q : Type 0} (old new : AllAmounts) (p : Policy Q) (before after : Amounts) → new.by_policy.entries ≡ set_value (has_bytes (λ k. k.bytes) p.id) old.by_policy.entries after
    → amounts_of old p.id ≡ Some before → KeepsOtherNames before after p.tokens → KeepsOthersOf old new p
write_keeps old new p before after written found others = record {
  names = λ id name no.
      let there : bytes_eq id p.id ≡ true → amounts_of old id ≡ Some before = λ h. subst (λ (b : List ℕ). amounts_of old b ≡ Some before) (sym (bytes_from id p.id h)) found in
      rw (written, lookup_set (λ k. k.bytes) id p.id old.by_policy.entries after (ap is_some found))
      (write_bit (bytes_eq id p.id) name after before (amounts_of old id) there (λ h. others name (no h)));
  policies = λ id apart. rw written (set_apart (λ k. k.bytes) id p.id old.by_policy.entries after (ap is_some found) apart);
}

-- behind a step that changes no sum and no other policy
pub keeps_behind : {Q : Type 0} (old now new : AllAmounts) (p : Policy Q) → ((q name : List ℕ) → sum_of now q name ≡ sum_of old q name)
    → ((q : List ℕ) → bytes_eq q p.id ≡ false → amounts_of now q ≡ amounts_of old q) → KeepsOthersOf now new p → KeepsOthersOf old new p
keeps_behind old now new p same others keeps = record {
  names = λ id name no. keeps.names id name no ∙ same id name;
  policies = λ id apart. keeps.policies id apart ∙ others id apart;
}

-- where nothing changed
pub keeps_all : {Q : Type 0} (old new : AllAmounts) (p : Policy Q) → ((q : List ℕ) → amounts_of new q ≡ amounts_of old q) → KeepsOthersOf old new p
keeps_all old new p same = record {
  names = λ id name no. ap (λ (o : Option Amounts). sum_under_any o name) (same id);
  policies = λ id apart. same id;
}
