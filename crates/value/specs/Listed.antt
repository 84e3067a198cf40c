-- What is listed of sums: the policies, and under each its names with their sums. This project's own.
use Rattle.std.specs.Prelude.{◌≡◌, ◌≢◌, ℕ, ℤ, pos, List, [], Some, map}
use Rattle.std.specs.List.{AllByRecursion, Contains}
use Rattle.std.specs.List.Sorted.{IsStrictlySortedBy}
use Rattle.std.specs.Ordering.{nat_cmp}
use Rattle.std.specs.Cmp.Lexicographic.{slice_cmp}
use Rattle.ident.specs.Kinds.{ScriptHash}
use Rattle.value.specs.declared.amounts.Amounts.{Amounts}
use Rattle.value.specs.declared.amounts.AllAmounts.{AllAmounts}
use Rattle.value.specs.Sums.{sum_of, amounts_of}

-- the names with their sums, as they stand
abbrev pub named_sums : Amounts → List (List ℕ × ℤ)
named_sums amounts = map (λ e. (e.0.items, e.1)) amounts.by_name.entries

-- the policies with their names and sums, as they stand
abbrev pub listed : List (ScriptHash × Amounts) → List (List ℕ × List (List ℕ × ℤ))
listed policies = map (λ e. (e.0.bytes, named_sums e.1)) policies

-- under this policy this name is listed, with this sum
abbrev pub IsListed : (policy name : List ℕ) → ℤ → List (List ℕ × List (List ℕ × ℤ)) → Type 0
IsListed policy name sum all =
    (names : List (List ℕ × ℤ)) × Contains all (policy, names) × Contains names (name, sum)

-- the policies are listed in the order of their bytes, and under each its names are, of which there are some; none
-- twice
pub record IsInOrder (all : List (List ℕ × List (List ℕ × ℤ))) : Type 0 where
  pub policies : IsStrictlySortedBy (slice_cmp nat_cmp) (map (λ p. p.0) all)
  pub names : AllByRecursion (λ p. IsStrictlySortedBy (slice_cmp nat_cmp) (map (λ n. n.0) p.1)) all
  pub some : AllByRecursion (λ p. p.1 ≢ []) all

-- no sum that is kept is 0, and no policy is kept without a name
pub record IsTidy (all : AllAmounts) : Type 0 where
  pub sums : (policy name : List ℕ) → sum_of all policy name ≢ Some (pos 0)
  pub names : (policy : List ℕ) (amounts : Amounts) → amounts_of all policy ≡ Some amounts →
      amounts.by_name.entries ≢ []
