-- A value as JSON, and what is minted.
use Rattle.std.specs.Prelude.{ℕ, ℤ, pos, List, [], ◌∷◌, codes, flat_map, map}
use Rattle.serde_json.specs.Data.{Data, array}
use Rattle.serde_json.specs.View.{items_of}
use Rattle.model.specs.Value.{Token, Policy, Value}
use Rattle.describing.specs.Parts.{json_of_number, json_of_whole, json_of_bytes, object_of}

-- how much there is of one asset: its policy, its name and its quantity, which is read as a whole number
abbrev pub json_of_asset : {Q : Type 0} → (whole : Q → ℤ) → (policy : List ℕ) → Token Q → Data
json_of_asset whole policy token = object_of (
    (codes "name", json_of_bytes token.name)
    ∷ (codes "policy", json_of_bytes policy)
    ∷ (codes "quantity", json_of_whole (whole token.quantity)) ∷ [])

-- one for each asset of a policy
abbrev pub jsons_of_policy : {Q : Type 0} → (whole : Q → ℤ) → Policy Q → List Data
jsons_of_policy whole policy = map (json_of_asset whole policy.id) policy.tokens

-- the assets of each policy, in their order
abbrev pub json_of_assets : {Q : Type 0} → (whole : Q → ℤ) → List (Policy Q) → Data
json_of_assets whole policies = array (items_of (flat_map (jsons_of_policy whole) policies))

-- A VALUE AS JSON: its coin in lovelace, and how much there is of each other asset
abbrev pub json_of_value : Value → Data
json_of_value value = object_of (
    (codes "assets", json_of_assets pos value.assets)
    ∷ (codes "coin", json_of_number value.coin) ∷ [])
