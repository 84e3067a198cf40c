-- What tokens and policies of the code stand for.
use Rattle.std.specs.Prelude.{ℕ, List, map}
use Rattle.model.specs.Value.{Token, Policy, Value}
use Rattle.value.specs.declared.assets.Token.{Token as CodeToken}
use Rattle.value.specs.declared.assets.Policy.{Policy as CodePolicy}
use Rattle.value.specs.declared.asset_quantity.AssetQuantity.{AssetQuantity as CodeAssetQuantity}
use Rattle.value.specs.Parts.{AssetQuantity}

abbrev pub token_of : {Q : Type 0} → CodeToken Q → Token Q
token_of t = record { name = t.name.items; quantity = t.quantity }

abbrev pub policy_of : {Q : Type 0} → CodePolicy Q → Policy Q
policy_of p = record { id = p.id.bytes; tokens = map token_of p.tokens.items }

abbrev pub asset_of : {Q : Type 0} → CodeAssetQuantity Q → AssetQuantity Q
asset_of a = record { policy = a.policy.bytes; name = a.name.items; quantity = a.quantity }

-- coin and assets as a value
abbrev pub value_with : ℕ → List (CodePolicy ℕ) → Value
value_with coin assets = record { coin = coin; assets = map policy_of assets }
