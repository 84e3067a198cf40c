-- What a part of the code stands for.
use Rattle.std.specs.Prelude.{ℕ, ℤ, pos, Bool, true, false}
use Rattle.draft.specs.declared.signer.Signing.{Signing}
use Rattle.draft.specs.declared.signer.Signing.TheVariants.{Good, Bad}
use Rattle.script.specs.declared.part.Owner.{Owner}
use Rattle.script.specs.declared.part.Owner.TheVariants as owner
use Rattle.script.specs.declared.part.Quantity.{Quantity}
use Rattle.script.specs.declared.part.Part.{Part}
use Rattle.script.specs.declared.part.Part.TheVariants as part
use Rattle.script.specs.Line as spec
pub use Rattle.script.specs.AssetView.{asset_name_of, named_asset_of}
use Rattle.script.specs.WordsView.{words_left}

abbrev pub owner_of : Owner → spec.Owner
owner_of (owner.Key name) = spec.OwnedByKey name.text.now
owner_of (owner.Script name) = spec.OwnedByScript name.text.now

-- this much below 0, or above it
abbrev pub signed : Bool → ℕ → ℤ
signed true n = spec.negated n
signed false n = pos n

abbrev pub quantity_of : Quantity → ℤ
quantity_of q = signed q.negative q.size

-- whether a key is to sign well
abbrev pub is_good : Signing → Bool
is_good Good = true
is_good Bad = false

abbrev pub part_of : Part → spec.Part
part_of (part.SpendGrant index) = spec.SpendGrant index
part_of (part.Spend tx index) = spec.Spend tx.text.now index
part_of (part.Pay owner coin assets) = spec.Pay (owner_of owner) coin (spec.said_assets (words_left assets.words))
part_of (part.Fee fee) = spec.SetFee fee
part_of (part.From slot) = spec.SetStart slot
part_of (part.Until slot) = spec.SetEnd slot
part_of (part.Mint script name quantity) =
    spec.MintAsset
    (record { script = script.text.now; name = asset_name_of name; quantity = quantity_of quantity })
part_of (part.Sign key signing) = spec.SignBy key.text.now (is_good signing)
part_of (part.With script) = spec.Supply script.text.now
