-- Assets, transactions and points that lines name, one after the other.
use Rattle.std.proofs.Common.{◌≡◌, ℕ, ◌<◌, IsTrue, List, [], ◌∷◌, ◌++◌, length, map, drop, Option, Some, None, is_some, option_map, refl, sym, ◌∙◌, ap, append_assoc, append-nil, arith}
use Rattle.std.proofs.lemmas.Option.{same_Some}
use Rattle.model.specs.Chain.{Point}
use Rattle.model.specs.Script.{Script, script_hash_of}
use Rattle.model.specs.Transaction.{Transaction, Address}
use Rattle.value.specs.Parts.{AssetQuantity}
use Rattle.script.specs.Text.{first_word}
use Rattle.script.specs.Line.{NamedAsset, NamedPlace, OwnedByKey, said_place, said_places}
use Rattle.script.specs.AssetView.{first_of}
use Rattle.script.specs.Names.{AllNames, Binding, Named, bound_to}
use Rattle.script.specs.Meaning.{address_on, assets_of, asset_of, are_some, key_address, key_addresses, point_at, points_at, with_one, txs_named}

-- ---- measures

pub fewer_assets : (assets : List (NamedAsset ℕ)) (a : NamedAsset ℕ) → first_of assets ≡ Some a → length (drop 1 assets) < length assets
fewer_assets [] a is = cc
fewer_assets (x ∷ xs) a is = omega arith

pub fewer_words : (words : List (List ℕ)) (word : List ℕ) → first_word words ≡ Some word → length (drop 1 words) < length words
fewer_words [] word is = cc
fewer_words (x ∷ xs) word is = omega arith

pub fewer_places : (words : List (List ℕ)) (place : NamedPlace) → option_map said_place (first_word words) ≡ Some place → length (drop 1 words) < length words
fewer_places [] place is = cc
fewer_places (x ∷ xs) place is = omega arith

-- a word is there, so there are some
pub some_before : (words : List (List ℕ)) (word : List ℕ) → first_word words ≡ Some word → IsTrue (are_some words)
some_before [] word is = cc
some_before (x ∷ xs) word is = refl

-- one more that is known
with_first : {X : Type 0} (x : X) (others : Option (List X)) → with_one (Some x) others ≡ option_map (λ (rest : List X). x ∷ rest) others
with_first x None = refl
with_first x (Some others) = refl

-- ---- assets

-- what an asset is whose script is known
abbrev pub found_asset : NamedAsset ℕ → Script → AssetQuantity ℕ
found_asset a script = record { policy = script_hash_of script; name = a.name; quantity = a.quantity }

-- a first asset that is known
pub next_asset_known : (names : AllNames) (assets : List (NamedAsset ℕ)) (a : NamedAsset ℕ) (script : Script) → first_of assets ≡ Some a → bound_to a.script names.of_scripts ≡ Some script
    → assets_of names assets ≡ option_map (λ (rest : List (AssetQuantity ℕ)). found_asset a script ∷ rest) (assets_of names (drop 1 assets))
next_asset_known names [] a script is known = cc
next_asset_known names (x ∷ xs) a script is known =
    let same : x ≡ a = same_Some x a is in
    let found : asset_of names x ≡ Some (found_asset a script) = rw same (rw known refl) in
    rw found (with_first (found_asset a script) (assets_of names xs))

-- one that isn't
pub next_asset_unknown : (names : AllNames) (assets : List (NamedAsset ℕ)) (a : NamedAsset ℕ) → first_of assets ≡ Some a → bound_to a.script names.of_scripts ≡ None → assets_of names assets ≡ None
next_asset_unknown names [] a is unknown = cc
next_asset_unknown names (x ∷ xs) a is unknown =
    let same : x ≡ a = same_Some x a is in
    let none : asset_of names x ≡ None = rw same (rw unknown refl) in
    rw none refl

-- no asset
pub no_assets_left : (names : AllNames) (assets : List (NamedAsset ℕ)) → first_of assets ≡ None → assets_of names assets ≡ Some []
no_assets_left names [] none = refl
no_assets_left names (x ∷ xs) none = cc

-- ---- transactions

pub next_tx_known : (names : AllNames) (words : List (List ℕ)) (word : List ℕ) (tx : Transaction) → first_word words ≡ Some word → bound_to word names.of_txs ≡ Some tx
    → txs_named names words ≡ option_map (λ (rest : List Transaction). tx ∷ rest) (txs_named names (drop 1 words))
next_tx_known names [] word tx is known = cc
next_tx_known names (x ∷ xs) word tx is known =
    let same : x ≡ word = same_Some x word is in
    let found : bound_to x names.of_txs ≡ Some tx = rw same known in
    rw found (with_first tx (txs_named names xs))

pub next_tx_unknown : (names : AllNames) (words : List (List ℕ)) (word : List ℕ) → first_word words ≡ Some word → bound_to word names.of_txs ≡ None → txs_named names words ≡ None
next_tx_unknown names [] word is unknown = cc
next_tx_unknown names (x ∷ xs) word is unknown =
    let same : x ≡ word = same_Some x word is in
    let none : bound_to x names.of_txs ≡ None = rw same unknown in
    rw none refl

pub no_words_left : (names : AllNames) (words : List (List ℕ)) → first_word words ≡ None → txs_named names words ≡ Some []
no_words_left names [] none = refl
no_words_left names (x ∷ xs) none = cc

-- ---- keys

-- where a key's address is known, it stands beside its name
pub key_named : (names : AllNames) (name : List ℕ) (address : Address) → address_on names (OwnedByKey name) ≡ Some address → key_address names name ≡ Some (record { name = name; bound = address })
key_named names name address known = ap (option_map (λ (a : Address). record { name = name; bound = a })) known

pub key_unnamed : (names : AllNames) (name : List ℕ) → address_on names (OwnedByKey name) ≡ None → key_address names name ≡ None
key_unnamed names name unknown = ap (option_map (λ (a : Address). record { name = name; bound = a })) unknown

-- a first key that is known
pub next_key_known : (names : AllNames) (words : List (List ℕ)) (word : List ℕ) (key : Named Address) → first_word words ≡ Some word → key_address names word ≡ Some key
    → key_addresses names words ≡ option_map (λ (rest : List (Named Address)). key ∷ rest) (key_addresses names (drop 1 words))
next_key_known names [] word key is known = cc
next_key_known names (x ∷ xs) word key is known =
    let same : x ≡ word = same_Some x word is in
    let found : key_address names x ≡ Some key = ap (key_address names) same ∙ known in
    ap (λ (first : Option (Named Address)). with_one first (key_addresses names xs)) found ∙ with_first key (key_addresses names xs)

-- one that isn't
pub next_key_unknown : (names : AllNames) (words : List (List ℕ)) (word : List ℕ) → first_word words ≡ Some word → key_address names word ≡ None → key_addresses names words ≡ None
next_key_unknown names [] word is unknown = cc
next_key_unknown names (x ∷ xs) word is unknown =
    let same : x ≡ word = same_Some x word is in
    let none : key_address names x ≡ None = ap (key_address names) same ∙ unknown in
    ap (λ (first : Option (Named Address)). with_one first (key_addresses names xs)) none

-- no key
pub no_keys_left : (names : AllNames) (words : List (List ℕ)) → first_word words ≡ None → key_addresses names words ≡ Some []
no_keys_left names [] none = refl
no_keys_left names (x ∷ xs) none = cc

-- ---- points

-- a first place whose point is known
pub next_point_known : (names : List Binding) (words : List (List ℕ)) (place : NamedPlace) (point : Point) → option_map said_place (first_word words) ≡ Some place → point_at names place ≡ Some point
    → points_at names (said_places words) ≡ option_map (λ (rest : List Point). point ∷ rest) (points_at names (said_places (drop 1 words)))
next_point_known names [] place point is known = cc
next_point_known names (x ∷ xs) place point is known =
    let same : said_place x ≡ place = same_Some (said_place x) place is in
    let found : point_at names (said_place x) ≡ Some point = ap (point_at names) same ∙ known in
    ap (λ (first : Option Point). with_one first (points_at names (said_places xs))) found ∙ with_first point (points_at names (said_places xs))

-- one whose point isn't
pub next_point_unknown : (names : List Binding) (words : List (List ℕ)) (place : NamedPlace) → option_map said_place (first_word words) ≡ Some place → point_at names place ≡ None → points_at names (said_places words) ≡ None
next_point_unknown names [] place is unknown = cc
next_point_unknown names (x ∷ xs) place is unknown =
    let same : said_place x ≡ place = same_Some (said_place x) place is in
    let none : point_at names (said_place x) ≡ None = ap (point_at names) same ∙ unknown in
    ap (λ (first : Option Point). with_one first (points_at names (said_places xs))) none

-- no place
pub no_places_left : (names : List Binding) (words : List (List ℕ)) → option_map said_place (first_word words) ≡ None → points_at names (said_places words) ≡ Some []
no_places_left names [] none = refl
no_places_left names (x ∷ xs) none = cc

-- ---- what is gathered

-- whether there are more, where one was found
pub some_more : {X : Type 0} (wanted rest : Option (List X)) (x : X) → wanted ≡ option_map (λ (xs : List X). x ∷ xs) rest → is_some wanted ≡ is_some rest
some_more wanted None x is = rw is refl
some_more wanted (Some rest) x is = rw is refl

-- nothing yet
pub none_gathered : {X : Type 0} (wanted : Option (List X)) → wanted ≡ option_map (λ (xs : List X). [] ++ xs) wanted
none_gathered None = refl
none_gathered (Some xs) = refl

-- one more
pub one_gathered : {X : Type 0} (done : List X) (x : X) (wanted left rest : Option (List X)) → wanted ≡ option_map (λ (xs : List X). done ++ xs) left → left ≡ option_map (λ (xs : List X). x ∷ xs) rest
    → wanted ≡ option_map (λ (xs : List X). (done ++ x ∷ []) ++ xs) rest
one_gathered done x wanted left None is more = rw (is, more) refl
one_gathered done x wanted left (Some rest) is more = rw (is, more) (ap Some (sym (append_assoc done (x ∷ []) rest)))

-- all
pub all_gathered : {X : Type 0} (done : List X) (wanted left : Option (List X)) → wanted ≡ option_map (λ (xs : List X). done ++ xs) left → left ≡ Some [] → wanted ≡ Some done
all_gathered done wanted left is none = rw (is, none) (ap Some (append-nil done))

-- none of what is wanted, where what is left is not known
pub none_wanted : {X : Type 0} (done : List X) (wanted left : Option (List X)) → wanted ≡ option_map (λ (xs : List X). done ++ xs) left → left ≡ None → wanted ≡ None
none_wanted done wanted left is none = rw (is, none) refl

map_more : {X Y : Type 0} (view : X → Y) (done : List X) (x : X) → map view (done ++ x ∷ []) ≡ map view done ++ view x ∷ []
map_more view [] x = refl
map_more view (d ∷ done) x = ap (λ (ys : List _). view d ∷ ys) (map_more view done x)

-- one more, seen by a view of it
pub gathered_more : {X Y : Type 0} (view : X → Y) (done new : List X) (x : X) (y : Y) (wanted left rest : Option (List Y)) → new ≡ done ++ x ∷ [] → view x ≡ y → wanted ≡ option_map (λ (ys : List Y). map view done ++ ys) left
    → left ≡ option_map (λ (ys : List Y). y ∷ ys) rest → wanted ≡ option_map (λ (ys : List Y). map view new ++ ys) rest
gathered_more {X} {Y} view done new x y wanted left rest pushed same is more =
    let all : map view new ≡ map view done ++ y ∷ [] = ap (map view) pushed ∙ map_more view done x ∙ ap (λ (z : Y). map view done ++ z ∷ []) same in
    rw all (one_gathered (map view done) y wanted left rest is more)

-- what an asset is that is put together of parts
pub same_asset : (a : NamedAsset ℕ) (script : Script) (policy name : List ℕ) → policy ≡ script_hash_of script → name ≡ a.name → (let asset : AssetQuantity ℕ = record { policy = policy; name = name; quantity = a.quantity } in asset) ≡ found_asset a script
same_asset a script policy name p n = λ i. record { policy = p i; name = n i; quantity = a.quantity }
