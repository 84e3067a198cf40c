-- What the makers of values and mints promise.
use Rattle.std.proofs.Common.{◌≢◌, ℕ, ℤ, pos, negsuc, ◌^◌, ◌<◌, List, [], ◌∷◌, map, arith}
use Rattle.model.specs.Cbor.{Unsigned, HasText, PairsHaveRisingKeys, pairs_of}
use Rattle.model.specs.Value.{Policy, Value, Mint, item_of_number, item_of_assets, item_of_value, coin_with, entry_of_policy, IsValue, IsMint, IsMintedQuantity}
use Rattle.value.specs.declared.asset_fault.AssetFault.{AssetFault}
use Rattle.value.specs.declared.asset_fault.AssetFault.TheVariants as faults
use Rattle.value.specs.Parts.{AssetQuantity, IsValueOf, IsMintOf, IsAssetFault, IfAtFault}
use Rattle.value.specs.Said.{AreSaid}
use Rattle.value.proofs.Refusing.{none_at_fault}

-- coin with assets that have a text has one
pub coin_said : (coin : ℕ) (ps : List (Policy ℕ)) → coin < 2 ^ 64 → AreSaid (λ q. q ≢ 0) Unsigned ps → HasText (coin_with coin ps)
coin_said coin [] fits said = record { in_range = fits; rising = tt; nests = omega arith }
coin_said coin (p ∷ ps) fits said =
    let deep = said.nests in
    record { in_range = (omega arith, (fits, (said.in_range, tt))); rising = (tt, (said.rising, tt)); nests = omega (arith, deep) }

-- and so does what is minted
pub mint_said : (ps : Mint) → AreSaid IsMintedQuantity item_of_number ps → HasText (item_of_assets item_of_number ps)
mint_said ps said =
    let deep = said.nests in
    record { in_range = said.in_range; rising = said.rising; nests = omega (arith, deep) }

pub value_rises : (coin : ℕ) (ps : List (Policy ℕ)) → HasText (coin_with coin ps) → PairsHaveRisingKeys (pairs_of (map (entry_of_policy Unsigned) ps))
value_rises coin [] text = tt
value_rises coin (p ∷ ps) text = text.rising.1.0

pub no_value : (coin : ℕ) (assets : List (AssetQuantity ℕ)) (fault : AssetFault) → IsAssetFault pos assets fault
    → IfAtFault fault ((value : Value) → IsValue value → HasText (item_of_value value) → IsValueOf value coin assets → ⊥)
no_value coin assets faults.NameTooLong first = λ value is text of. none_at_fault (λ q. q ≢ 0) Unsigned pos (λ q some zero. some cc) faults.NameTooLong assets value.assets first is (value_rises value.coin value.assets text) of.same_assets
no_value coin assets faults.ZeroQuantity first = λ value is text of. none_at_fault (λ q. q ≢ 0) Unsigned pos (λ q some zero. some cc) faults.ZeroQuantity assets value.assets first is (value_rises value.coin value.assets text) of.same_assets
no_value coin assets faults.Repeated first = λ value is text of. none_at_fault (λ q. q ≢ 0) Unsigned pos (λ q some zero. some cc) faults.Repeated assets value.assets first is (value_rises value.coin value.assets text) of.same_assets
no_value coin assets faults.OutOfMemory first = tt

minted_counts : (q : ℤ) → IsMintedQuantity q → q ≢ pos 0
minted_counts (pos n) some = λ zero. some.0 cc
minted_counts (negsuc n) some = λ zero. absurd cc

pub no_mint : (assets : List (AssetQuantity ℤ)) (fault : AssetFault) → IsAssetFault (λ q. q) assets fault
    → IfAtFault fault ((mint : Mint) → IsMint mint → HasText (item_of_assets item_of_number mint) → IsMintOf mint assets → ⊥)
no_mint assets faults.NameTooLong first = λ mint is text of. none_at_fault IsMintedQuantity item_of_number (λ q. q) minted_counts faults.NameTooLong assets mint first is text.rising of
no_mint assets faults.ZeroQuantity first = λ mint is text of. none_at_fault IsMintedQuantity item_of_number (λ q. q) minted_counts faults.ZeroQuantity assets mint first is text.rising of
no_mint assets faults.Repeated first = λ mint is text of. none_at_fault IsMintedQuantity item_of_number (λ q. q) minted_counts faults.Repeated assets mint first is text.rising of
no_mint assets faults.OutOfMemory first = tt
