-- Sums of assets as they are gathered, before they are put in order.
use Rattle.std.specs.Prelude.{◌≡◌, ◌≢◌, ◌↔◌, ◌≤◌, ℕ, ℤ, pos, List, map, Contains, count_by}
use Rattle.model.specs.Value.{Asset, Named}
use Rattle.value.specs.Parts.{AssetQuantity, is_of}
use Rattle.scenario.specs.Balances.{much_of}

-- what a policy has under these names
abbrev pub assets_under : (policy : List ℕ) → List (List ℕ × ℤ) → List (AssetQuantity ℤ)
assets_under policy names = map (λ n. much_of policy n.0 n.1) names

-- just the assets but ada of which there is something, each once with how much there is, in whatever order
pub record AreListed (total : Asset → ℤ) (assets : List (AssetQuantity ℤ)) : Type 0 where
  pub listed : (policy name : List ℕ) (sum : ℤ) → Contains assets (much_of policy name sum)
      ↔ ((total (Named policy name) ≡ sum) × (sum ≢ pos 0))
  pub once : (policy name : List ℕ) → count_by (is_of policy name) assets ≤ 1
