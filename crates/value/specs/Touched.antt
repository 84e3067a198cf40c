-- What a change of sums leaves as it was, which is all that it has no names of, and what it makes tidy.
use Rattle.std.specs.Prelude.{◌≡◌, true, false, ℕ, pos, List, [], Some, bytes_eq}
use Rattle.std.specs.List.{AllByRecursion}
use Rattle.model.specs.Value.{Token, Policy}
use Rattle.value.specs.declared.amounts.Amounts.{Amounts}
use Rattle.value.specs.declared.amounts.AllAmounts.{AllAmounts}
use Rattle.value.specs.Sums.{sum_under, sum_of, amounts_of}

-- no token has this name
abbrev pub IsNoName : {Q : Type 0} → List ℕ → List (Token Q) → Type 0
IsNoName name tokens = AllByRecursion (λ t. bytes_eq name t.name ≡ false) tokens

-- no policy has this identifier
abbrev pub IsNoPolicy : {Q : Type 0} → List ℕ → List (Policy Q) → Type 0
IsNoPolicy id policies = AllByRecursion (λ p. bytes_eq id p.id ≡ false) policies

-- no policy with this identifier has a token of this name
abbrev pub IsNoAsset : {Q : Type 0} → (id name : List ℕ) → List (Policy Q) → Type 0
IsNoAsset id name policies = AllByRecursion (λ p. bytes_eq id p.id ≡ true → IsNoName name p.tokens) policies

-- other names than the tokens' have what they had
abbrev pub KeepsOtherNames : {Q : Type 0} → (old new : Amounts) → List (Token Q) → Type 0
KeepsOtherNames old new tokens = (name : List ℕ) → IsNoName name tokens → sum_under new name ≡ sum_under old name

-- other assets than the policy's have what they had
pub record KeepsOthersOf {Q : Type 0} (old new : AllAmounts) (p : Policy Q) : Type 0 where
  pub names : (id name : List ℕ) → (bytes_eq id p.id ≡ true → IsNoName name p.tokens) →
      sum_of new id name ≡ sum_of old id name
  pub policies : (id : List ℕ) → bytes_eq id p.id ≡ false → amounts_of new id ≡ amounts_of old id

-- other assets than the policies' have what they had
pub record KeepsOtherAssets {Q : Type 0} (old new : AllAmounts) (ps : List (Policy Q)) : Type 0 where
  pub names : (id name : List ℕ) → IsNoAsset id name ps → sum_of new id name ≡ sum_of old id name
  pub policies : (id : List ℕ) → IsNoPolicy id ps → amounts_of new id ≡ amounts_of old id

-- none of the policies' assets is kept with a sum of 0, and none of the policies without a name
pub record IsTidyAt {Q : Type 0} (all : AllAmounts) (ps : List (Policy Q)) : Type 0 where
  pub sums : (id name : List ℕ) → sum_of all id name ≡ Some (pos 0) → IsNoAsset id name ps
  pub names : (id : List ℕ) (amounts : Amounts) → amounts_of all id ≡ Some amounts →
      amounts.by_name.entries ≡ [] → IsNoPolicy id ps
