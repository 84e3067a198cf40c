-- What the sums of the code have under each name and policy.
use Rattle.std.specs.Prelude.{ℕ, ℤ, pos, List, Option, Some, None, IsSome}
use Rattle.std.specs.List.{AllByRecursion}
use Rattle.byte_keys.specs.ByteKeys.{at_bytes}
use Rattle.model.specs.Value.{Asset, Ada, Named, Token, Policy}
use Rattle.value.specs.Quantities.{IsWithin, quantity_limit}
use Rattle.value.specs.declared.amounts.Amounts.{Amounts}
use Rattle.value.specs.declared.amounts.AllAmounts.{AllAmounts}

-- what has no sum yet counts as 0
abbrev pub or_zero : Option ℤ → ℤ
or_zero None = pos 0
or_zero (Some z) = z

-- the sum under a name, where there is one
abbrev pub sum_under : Amounts → List ℕ → Option ℤ
sum_under amounts name = at_bytes (λ k. k.items) name amounts.by_name

-- the same of a policy that may have no sums
abbrev pub sum_under_any : Option Amounts → List ℕ → Option ℤ
sum_under_any None name = None
sum_under_any (Some amounts) name = sum_under amounts name

-- the sums of a policy, where there are any
abbrev pub amounts_of : AllAmounts → List ℕ → Option Amounts
amounts_of all policy = at_bytes (λ k. k.bytes) policy all.by_policy

-- the sum under a name of a policy, where there is one
abbrev pub sum_of : AllAmounts → (policy name : List ℕ) → Option ℤ
sum_of all policy name = sum_under_any (amounts_of all policy) name

-- how much there is under a name
abbrev pub amount_under : Amounts → List ℕ → ℤ
amount_under amounts name = or_zero (sum_under amounts name)

-- how much there is under a name of a policy
abbrev pub amount_in : AllAmounts → (policy name : List ℕ) → ℤ
amount_in all policy name = or_zero (sum_of all policy name)

-- how much of an asset there is, where there is this much ada
abbrev pub total_in : ℤ → AllAmounts → Asset → ℤ
total_in coin all Ada = coin
total_in coin all (Named policy name) = amount_in all policy name

-- each token's name has a sum
abbrev pub HasAll : {Q : Type 0} → Amounts → List (Token Q) → Type 0
HasAll amounts tokens = AllByRecursion (λ t. IsSome (sum_under amounts t.name)) tokens

-- each token's name has a sum under the policy
abbrev pub HasPolicy : {Q : Type 0} → AllAmounts → Policy Q → Type 0
HasPolicy all policy = AllByRecursion (λ t. IsSome (sum_of all policy.id t.name)) policy.tokens

-- no token's quantity is farther from 0 than a quantity can be
abbrev pub AreBounded : {Q : Type 0} → (Q → ℤ) → List (Token Q) → Type 0
AreBounded whole tokens = AllByRecursion (λ t. IsWithin quantity_limit (whole t.quantity)) tokens
