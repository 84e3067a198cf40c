-- The assets that words say, one after the other.
use Rattle.std.proofs.Common.{◌≡◌, ℕ, true, false, List, [], ◌∷◌, drop, Option, Some, None, is_some, IsSome}
use Rattle.std.proofs.Common.{unwrap_or, refl, ◌∙◌, ap}
use Rattle.script.specs.Text.{parse_number}
use Rattle.script.specs.Line.{NamedAsset, asset_of_parts, parse_asset_name, parse_assets, said_assets, with_asset}
use Rattle.script.specs.WordsView.{has_no_words}
use Rattle.script.specs.AssetView.{first_asset, first_of}

-- where no words are left there are no further assets
pub all_said : (ws : List (List ℕ)) → has_no_words ws ≡ true → is_some (parse_assets ws) ≡ true
all_said [] none = refl
all_said (w ∷ ws) none = cc

-- words that do not begin with an asset say none
pub no_asset : (ws : List (List ℕ)) → has_no_words ws ≡ false → first_asset ws ≡ None → parse_assets ws ≡ None
no_asset [] some none = cc
no_asset (a ∷ []) some none = refl
no_asset (a ∷ b ∷ []) some none = refl
no_asset (a ∷ b ∷ d ∷ ws) some none = ap (λ (asset : Option (NamedAsset ℕ)). with_asset asset (parse_assets ws)) none

with_others : (asset : NamedAsset ℕ) (others : Option (List (NamedAsset ℕ)))
    → is_some (with_asset (Some asset) others) ≡ is_some others
with_others asset None = refl
with_others asset (Some others) = refl

-- words that begin with an asset say assets where those after it do
pub one_asset : (ws : List (List ℕ)) (asset : NamedAsset ℕ) → first_asset ws ≡ Some asset
    → is_some (parse_assets ws) ≡ is_some (parse_assets (drop 3 ws))
one_asset [] asset is = cc
one_asset (a ∷ []) asset is = cc
one_asset (a ∷ b ∷ []) asset is = cc
one_asset (a ∷ b ∷ d ∷ ws) asset is =
    ap (λ (first : Option (NamedAsset ℕ)). is_some (with_asset first (parse_assets ws))) is
    ∙ with_others asset (parse_assets ws)

first_is : (asset : Option (NamedAsset ℕ)) (others : Option (List (NamedAsset ℕ))) → IsSome (with_asset asset others)
    → asset ≡ first_of (unwrap_or (with_asset asset others) [])
first_is None others says = cc
first_is (Some asset) None says = cc
first_is (Some asset) (Some others) says = refl

others_are : (asset : Option (NamedAsset ℕ)) (others : Option (List (NamedAsset ℕ)))
    → IsSome (with_asset asset others) → unwrap_or others [] ≡ drop 1 (unwrap_or (with_asset asset others) [])
others_are None others says = cc
others_are (Some asset) None says = cc
others_are (Some asset) (Some others) says = refl

others_say : (asset : Option (NamedAsset ℕ)) (others : Option (List (NamedAsset ℕ)))
    → IsSome (with_asset asset others) → IsSome others
others_say None others says = cc
others_say (Some asset) None says = cc
others_say (Some asset) (Some others) says = refl

-- the first asset of those that words say
pub first_said : (ws : List (List ℕ)) → IsSome (parse_assets ws) → first_asset ws ≡ first_of (said_assets ws)
first_said [] says = refl
first_said (a ∷ []) says = cc
first_said (a ∷ b ∷ []) says = cc
first_said (a ∷ b ∷ d ∷ ws) says =
    first_is (asset_of_parts a (parse_asset_name b) (parse_number d)) (parse_assets ws) says

-- the others
pub others_said : (ws : List (List ℕ)) → IsSome (parse_assets ws) → said_assets (drop 3 ws) ≡ drop 1 (said_assets ws)
others_said [] says = refl
others_said (a ∷ []) says = cc
others_said (a ∷ b ∷ []) says = cc
others_said (a ∷ b ∷ d ∷ ws) says =
    others_are (asset_of_parts a (parse_asset_name b) (parse_number d)) (parse_assets ws) says

-- which the words after it say
pub still_says : (ws : List (List ℕ)) → IsSome (parse_assets ws) → IsSome (parse_assets (drop 3 ws))
still_says [] says = refl
still_says (a ∷ []) says = cc
still_says (a ∷ b ∷ []) says = cc
still_says (a ∷ b ∷ d ∷ ws) says =
    others_say (asset_of_parts a (parse_asset_name b) (parse_number d)) (parse_assets ws) says

-- what is said, where it is known that something is
pub said_is : (said : Option (List (NamedAsset ℕ))) → is_some said ≡ true → Some (unwrap_or said []) ≡ said
said_is None is = cc
said_is (Some assets) is = refl

pub unsaid : (said : Option (List (NamedAsset ℕ))) → is_some said ≡ false → None ≡ said
unsaid None is = refl
unsaid (Some assets) is = cc
