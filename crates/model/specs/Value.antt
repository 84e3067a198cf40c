-- Values of several assets (Shelley-MA, the coin and the asset maps of outputs and of mint).
use Rattle.std.specs.Prelude.{◌≡◌, ◌≢◌, ℕ, ◌≤◌, ◌<◌, ℤ, pos, negsuc, ◌+ℤ◌, List, [], ◌∷◌, length, map, bytes_eq}
use Rattle.std.specs.Prelude.{if◌then◌else◌}
use Rattle.std.specs.List.{AllByRecursion}
use Rattle.model.specs.Limits.{hash_size, name_size_limit, number_limit}
use Rattle.model.specs.Cbor.{Item, Unsigned, Negative, Bytes, array_of, map_of, Spells}

-- an asset name, 0 to 32 bytes, with its quantity
pub record Token (Q : Type 0) : Type 0 where
  pub name : List ℕ
  pub quantity : Q

-- the assets of one policy, which is named by the 32 bytes of its script's hash
pub record Policy (Q : Type 0) : Type 0 where
  pub id : List ℕ
  pub tokens : List (Token Q)

-- what an output holds: lovelace, and quantities of other assets
pub record Value : Type 0 where
  pub coin : ℕ
  pub assets : List (Policy ℕ)

-- what a transaction makes, or with a negative quantity takes away; empty where it does neither
abbrev pub Mint : Type 0
Mint = List (Policy ℤ)

-- a whole number as an item
abbrev pub item_of_number : ℤ → Item
item_of_number (pos n) = Unsigned n
item_of_number (negsuc n) = Negative n

abbrev pub entry_of_token : {Q : Type 0} → (Q → Item) → Token Q → Item × Item
entry_of_token item_of token = (Bytes token.name, item_of token.quantity)

abbrev pub entry_of_policy : {Q : Type 0} → (Q → Item) → Policy Q → Item × Item
entry_of_policy item_of policy = (Bytes policy.id, map_of (map (entry_of_token item_of) policy.tokens))

-- a map from policies to maps from names to quantities
abbrev pub item_of_assets : {Q : Type 0} → (Q → Item) → List (Policy Q) → Item
item_of_assets item_of policies = map_of (map (entry_of_policy item_of) policies)

-- the coin alone, or with the assets where there are any
abbrev pub coin_with : ℕ → List (Policy ℕ) → Item
coin_with coin [] = Unsigned coin
coin_with coin (p ∷ ps) = array_of (Unsigned coin ∷ item_of_assets Unsigned (p ∷ ps) ∷ [])

abbrev pub item_of_value : Value → Item
item_of_value value = coin_with value.coin value.assets

-- names of at most 32 bytes, identifiers of 32, and no policy without an asset. That names and
-- policies rise is said by the item, whose keys they are.
pub record IsPolicy {Q : Type 0} (IsQuantity : Q → Type 0) (policy : Policy Q) : Type 0 where
  pub id : length policy.id ≡ hash_size
  pub not_empty : policy.tokens ≢ []
  pub tokens : AllByRecursion (λ token. (length token.name ≤ name_size_limit) × IsQuantity token.quantity) policy.tokens

-- quantities of an output are 1 to 2 ^ 64 - 1, of which the item says the upper bound
abbrev pub IsValue : Value → Type 0
IsValue value = AllByRecursion (IsPolicy (λ q. q ≢ 0)) value.assets

-- a minted quantity is -2 ^ 63 to 2 ^ 63 - 1, and not 0
abbrev pub IsMintedQuantity : ℤ → Type 0
IsMintedQuantity (pos n) = (n ≢ 0) × (n < number_limit)
IsMintedQuantity (negsuc n) = n < number_limit

abbrev pub IsMint : Mint → Type 0
IsMint mint = AllByRecursion (IsPolicy IsMintedQuantity) mint

-- the bytes are the text of the value
pub record SpellsValue (value : Value) (bytes : List ℕ) : Type 0 where
  pub is_value : IsValue value
  pub spelled : Spells (item_of_value value) bytes

-- the bytes are the text of what is minted, which is not nothing
pub record SpellsMint (mint : Mint) (bytes : List ℕ) : Type 0 where
  pub is_mint : IsMint mint
  pub not_empty : mint ≢ []
  pub spelled : Spells (item_of_assets item_of_number mint) bytes

-- ---- how much of an asset there is (Shelley-MA, values as finite maps from assets to whole numbers)

-- an asset: ada, or what a policy has under a name
pub data Asset : Type 0 where
  Ada : Asset
  Named : (policy name : List ℕ) → Asset

-- what there is under a name, each quantity read as a whole number: 0 where there is none
abbrev pub named_amount : {Q : Type 0} → (Q → ℤ) → List ℕ → List (Token Q) → ℤ
named_amount whole name [] = pos 0
named_amount whole name (t ∷ ts) =
    (if bytes_eq name t.name then whole t.quantity else pos 0) +ℤ named_amount whole name ts

-- what there is under a name of a policy
abbrev pub policy_amount : {Q : Type 0} → (Q → ℤ) → (policy name : List ℕ) → List (Policy Q) → ℤ
policy_amount whole policy name [] = pos 0
policy_amount whole policy name (p ∷ ps) =
    (if bytes_eq policy p.id then named_amount whole name p.tokens else pos 0) +ℤ policy_amount whole policy name ps

-- how much of an asset is held, ada counted in lovelace
abbrev pub amount_of : Asset → Value → ℤ
amount_of Ada value = pos value.coin
amount_of (Named policy name) value = policy_amount pos policy name value.assets

-- how much of an asset is made, or with a negative sign taken away; ada never is
abbrev pub minted_amount : Asset → Mint → ℤ
minted_amount Ada mint = pos 0
minted_amount (Named policy name) mint = policy_amount (λ quantity. quantity) policy name mint
