-- The lines of a value, and of what is minted.
use Rattle.std.specs.Prelude.{ℕ, ℤ, pos, List, [], ◌∷◌, ◌++◌, codes, flat_map}
use Rattle.std.specs.Fmt.{signed_decimal}
use Rattle.hex.specs.Hex.{encode_lower}
use Rattle.model.specs.Value.{Token, Policy, Value}
use Rattle.showing.specs.Lines.{number_line}

-- the name of an asset in lower case hexadecimal, and `-` for the empty one
abbrev pub name_text : List ℕ → List ℕ
name_text [] = codes "-"
name_text (byte ∷ bytes) = encode_lower (byte ∷ bytes)

-- a word, and how much there is of one asset: its policy, its name and its quantity, which is read as a whole number
abbrev pub asset_line : {Q : Type 0} → (whole : Q → ℤ) → (margin word policy : List ℕ) → Token Q → List ℕ
asset_line whole margin word policy token =
    margin ++ (word ++ (codes " " ++ (encode_lower policy ++ (codes " " ++ (name_text token.name ++ (codes " "
    ++ (signed_decimal (whole token.quantity) ++ 10 ∷ [])))))))

-- a line for each asset of a policy
abbrev pub lines_of_policy : {Q : Type 0} → (whole : Q → ℤ) → (margin word : List ℕ) → Policy Q → List ℕ
lines_of_policy whole margin word policy = flat_map (asset_line whole margin word policy.id) policy.tokens

-- the same of each policy, in their order
abbrev pub lines_of_assets : {Q : Type 0} → (whole : Q → ℤ) → (margin word : List ℕ) → List (Policy Q) → List ℕ
lines_of_assets whole margin word policies = flat_map (lines_of_policy whole margin word) policies

-- THE LINES OF A VALUE: its coin in lovelace, and how much there is of each other asset
abbrev pub lines_of_value : (margin : List ℕ) → Value → List ℕ
lines_of_value margin value =
    number_line margin (codes "coin") value.coin ++ lines_of_assets pos margin (codes "asset") value.assets
