-- Values as text for people, as cardano-cli writes them: `1000 lovelace`, and for each asset ` + 5 POLICY.NAME`, in the
-- value's order.
use Rattle.std.specs.Prelude.{ℕ, List, [], ◌∷◌, ◌++◌, codes, decimal, flat_map}
use Rattle.hex.specs.Hex.{encode_lower}
use Rattle.model.specs.Value.{Token, Policy, Value}

-- an asset: its policy in hexadecimal, and after it a dot and the name in hexadecimal, where that is not empty
abbrev pub asset_text : (policy name : List ℕ) → List ℕ
asset_text policy [] = encode_lower policy
asset_text policy (byte ∷ bytes) = encode_lower policy ++ (codes "." ++ encode_lower (byte ∷ bytes))

-- a quantity of an asset, after a plus sign
abbrev pub token_text : List ℕ → Token ℕ → List ℕ
token_text policy t = codes " + " ++ (decimal t.quantity ++ (codes " " ++ asset_text policy t.name))

-- the quantity of each asset of a policy
abbrev pub policy_text : Policy ℕ → List ℕ
policy_text p = flat_map (token_text p.id) p.tokens

-- the coin, and the quantity of each asset of each policy
abbrev pub value_text : Value → List ℕ
value_text value = decimal value.coin ++ (codes " lovelace" ++ flat_map policy_text value.assets)
