-- Sums of values, for ada and each asset.
use Rattle.std.specs.Prelude.{ℕ, ℤ, pos, List}
use Rattle.ident.specs.Kinds.{ScriptHash}
use Rattle.model.specs.Value.{Asset, Ada, Named, Policy, policy_amount}
use Rattle.value.specs.declared.amounts.Amounts.{Amounts}
use Rattle.value.specs.declared.totals.Totals.{Totals}
use Rattle.value.specs.Sums.{total_in}

-- the sum for an asset: what was added of it without what was taken
abbrev pub total_of : Totals → Asset → ℤ
total_of totals asset = total_in totals.coin totals.assets asset

-- the policies that are listed, each with the sums under its names
abbrev pub policies_met : Totals → List (ScriptHash × Amounts)
policies_met totals = totals.assets.by_policy.entries

-- how much of an asset there is in a coin and assets
abbrev pub change_of : {Q : Type 0} → (Q → ℤ) → ℕ → List (Policy Q) → Asset → ℤ
change_of whole coin assets Ada = pos coin
change_of whole coin assets (Named policy name) = policy_amount whole policy name assets
