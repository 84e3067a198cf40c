-- Keys whose texts rise differ, so that no asset is met twice in a value.
use Rattle.std.proofs.Common.{◌≡◌, ◌≢◌, ℕ, List, [], ◌∷◌, map}
use Rattle.std.specs.List.{AllByRecursion}
use Rattle.std.specs.Ordering.{nat_cmp}
use Rattle.std.specs.declared.cmp.Ordering.TheVariants.{Less}
use Rattle.std.specs.Cmp.Lexicographic.{slice_cmp}
use Rattle.model.specs.Cbor.{Item, Unsigned, Bytes, text_of, pairs_of, PairsHaveRisingKeys, HasText}
use Rattle.model.specs.Value.{Token, Policy, Value, Mint, entry_of_token, entry_of_policy, item_of_assets, item_of_value, item_of_number}
use Rattle.model.proofs.RisingKeys.{keys_differ, before_all}
use Rattle.value.specs.Differing.{NamesDiffer, PoliciesDiffer}

module _ {Q : Type 0} (item_of : Q → Item) where
  other_names : (name : List ℕ) (ts : List (Token Q)) → AllByRecursion (λ t. slice_cmp nat_cmp (text_of (Bytes name)) (text_of (Bytes t.name)) ≡ Less) ts → AllByRecursion (λ u. u.name ≢ name) ts
  other_names name [] h = tt
  other_names name (t ∷ ts) h = (keys_differ name t.name h.0, other_names name ts h.1)

  names_differ : (ts : List (Token Q)) → PairsHaveRisingKeys (pairs_of (map (entry_of_token item_of) ts)) → NamesDiffer ts
  names_differ [] rising = tt
  names_differ (t ∷ ts) rising = (other_names t.name ts (before_all (entry_of_token item_of) (Bytes t.name) ts rising.2 rising.3), names_differ ts rising.3)

  other_policies : (id : List ℕ) (ps : List (Policy Q)) → AllByRecursion (λ p. slice_cmp nat_cmp (text_of (Bytes id)) (text_of (Bytes p.id)) ≡ Less) ps → AllByRecursion (λ q. q.id ≢ id) ps
  other_policies id [] h = tt
  other_policies id (p ∷ ps) h = (keys_differ id p.id h.0, other_policies id ps h.1)

  -- policies whose map has rising keys, and their names, differ
  pub policies_differ : (ps : List (Policy Q)) → PairsHaveRisingKeys (pairs_of (map (entry_of_policy item_of) ps)) → PoliciesDiffer ps
  policies_differ [] rising = tt
  policies_differ (p ∷ ps) rising =
      (names_differ p.tokens rising.1, other_policies p.id ps (before_all (entry_of_policy item_of) (Bytes p.id) ps rising.2 rising.3), policies_differ ps rising.3)

-- those of a value
pub value_differs : (value : Value) → HasText (item_of_value value) → PoliciesDiffer value.assets
value_differs value p = parts_differ value.coin value.assets p
  where
    parts_differ : (coin : ℕ) (ps : List (Policy ℕ)) → HasText (item_of_value (record { coin = coin; assets = ps })) → PoliciesDiffer ps
    parts_differ coin [] p = tt
    parts_differ coin (q ∷ qs) p = policies_differ Unsigned (q ∷ qs) p.rising.1.0

-- and those of what is minted
pub mint_differs : (mint : Mint) → HasText (item_of_assets item_of_number mint) → PoliciesDiffer mint
mint_differs mint p = policies_differ item_of_number mint p.rising
