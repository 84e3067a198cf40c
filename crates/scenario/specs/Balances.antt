-- What an owner has, and what is printed of it.
use Rattle.std.specs.Prelude.{◌≡◌, ◌≢◌, ◌↔◌, ℕ, ℤ, pos, List, [], ◌∷◌, ◌++◌, length, map, flat_map, Contains, codes}
use Rattle.std.specs.Prelude.{decimal}
use Rattle.std.specs.Fmt.{signed_decimal}
use Rattle.std.specs.List.Sorted.{IsStrictlySortedBy}
use Rattle.std.specs.FinMap as finite
use Rattle.hex.specs.Hex.{encode_lower}
use Rattle.model.specs.Value.{Asset, Ada, Named}
use Rattle.model.specs.Transaction.{Address, Output}
use Rattle.model.specs.Utxo.{Utxo, sum_of}
use Rattle.value.specs.Parts.{AssetQuantity}
use Rattle.value.specs.Order.{asset_cmp}
use Rattle.utxo_rules.specs.Entries.{pairs_of}
use Rattle.script.specs.Line.{Owner, OwnedByKey, OwnedByScript}

-- the unspent outputs of an address, in the order of their inputs
abbrev pub outputs_of_address : Address → Utxo → List Output
outputs_of_address address utxo = map (λ p. p.1) (pairs_of address (finite.entries utxo))

-- this much of what a policy has under a name
abbrev pub much_of : (policy name : List ℕ) → ℤ → AssetQuantity ℤ
much_of policy name sum = record { policy = policy; name = name; quantity = sum }

-- just the assets but ada of which there is something, each once with how much there is, in the order of a value's text
pub record AreAssetsOf (total : Asset → ℤ) (assets : List (AssetQuantity ℤ)) : Type 0 where
  pub listed : (policy name : List ℕ) (sum : ℤ) → Contains assets (much_of policy name sum)
      ↔ ((total (Named policy name) ≡ sum) × (sum ≢ pos 0))
  pub ordered : IsStrictlySortedBy asset_cmp assets

-- ---- what is printed

-- an asset's name in hexadecimal, and `-` for the empty one
abbrev pub asset_name_text : List ℕ → List ℕ
asset_name_text [] = codes "-"
asset_name_text (byte ∷ bytes) = encode_lower (byte ∷ bytes)

-- the line of an asset
abbrev pub asset_text : AssetQuantity ℤ → List ℕ
asset_text asset =
    codes "asset " ++ (encode_lower asset.policy ++ (codes " " ++ (asset_name_text asset.name ++ (codes " "
    ++ (signed_decimal asset.quantity ++ 10 ∷ [])))))

-- an owner, by its name
abbrev pub owner_text : Owner → List ℕ
owner_text (OwnedByKey name) = name
owner_text (OwnedByScript name) = codes "script " ++ name

-- how many outputs there are, how much lovelace they hold together, and a line for each asset
abbrev pub balance_text : Owner → (pairs : ℕ) → (coin : ℤ) → List (AssetQuantity ℤ) → List ℕ
balance_text owner pairs coin assets =
    codes "balance " ++ (owner_text owner ++ (codes ": pairs " ++ (decimal pairs ++ (codes " coin "
    ++ (signed_decimal coin ++ 10 ∷ flat_map asset_text assets)))))

-- what the question `balance` prints, where its owner has these outputs
pub record IsBalanceText (outputs : List Output) (owner : Owner) (out : List ℕ) : Type 0 where
  pub assets : List (AssetQuantity ℤ)
  pub are_assets : AreAssetsOf (λ asset. sum_of asset outputs) assets
  pub text : out ≡ balance_text owner (length outputs) (sum_of Ada outputs) assets
