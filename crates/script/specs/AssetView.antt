-- What an asset of the code stands for.
use Rattle.std.specs.Prelude.{ℕ, List, [], ◌∷◌, Option, Some, None}
use Rattle.script.specs.declared.part.AssetName.{AssetName}
use Rattle.script.specs.declared.part.AssetName.TheVariants as name
use Rattle.script.specs.declared.asset_words.NamedAsset.{NamedAsset}
use Rattle.script.specs.Line as spec
use Rattle.script.specs.Text.{parse_number}

abbrev pub asset_name_of : AssetName → List ℕ
asset_name_of name.Empty = []
asset_name_of (name.Digits digits) = spec.said_bytes digits.text.now

abbrev pub named_asset_of : NamedAsset → spec.NamedAsset ℕ
named_asset_of a = record { script = a.script.text.now; name = asset_name_of a.name; quantity = a.quantity }

-- the asset that the first three words say
abbrev pub first_asset : List (List ℕ) → Option (spec.NamedAsset ℕ)
first_asset [] = None
first_asset (script ∷ []) = None
first_asset (script ∷ name ∷ []) = None
first_asset (script ∷ name ∷ quantity ∷ words) =
    spec.asset_of_parts script (spec.parse_asset_name name) (parse_number quantity)

-- the first of some assets, if there is one
abbrev pub first_of : List (spec.NamedAsset ℕ) → Option (spec.NamedAsset ℕ)
first_of [] = None
first_of (asset ∷ assets) = Some asset
