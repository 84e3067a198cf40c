-- What a value and a mint of the code stand for, and what they keep: that they have a text.
use Rattle.std.specs.Prelude.{map}
use Rattle.model.specs.Cbor.{HasText}
use Rattle.model.specs.Value.{Value, Mint, item_of_value, item_of_number, item_of_assets, IsValue, IsMint}
use Rattle.value.specs.declared.value.Value.TheInside as value
use Rattle.value.specs.declared.mint.Mint.TheInside as mint
use Rattle.value.specs.View.{policy_of, value_with}

abbrev pub value_of : value.Inside → Value
value_of v = value_with v.coin v.assets.items

pub record IsHeldValue (v : value.Inside) : Type 0 where
  pub is_value : IsValue (value_of v)
  pub has_text : HasText (item_of_value (value_of v))

abbrev pub mint_of : mint.Inside → Mint
mint_of m = map policy_of m.policies.items

pub record IsHeldMint (m : mint.Inside) : Type 0 where
  pub is_mint : IsMint (mint_of m)
  pub has_text : HasText (item_of_assets item_of_number (mint_of m))
