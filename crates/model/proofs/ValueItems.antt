-- Values and what is minted have one item each, and one text.
use Rattle.std.proofs.Common.{◌≡◌, ℕ, List, [], ◌∷◌, ◌++◌, map, ℤ, pos, negsuc, refl}
use Rattle.model.specs.Cbor.{Item, Unsigned, pairs_of, map_of}
use Rattle.model.specs.Value.{Token, Policy, Value, Mint, item_of_number, entry_of_token, entry_of_policy, item_of_assets, coin_with, item_of_value, SpellsValue, SpellsMint}
use Rattle.model.proofs.ItemTexts.{one_item}
use Rattle.model.proofs.ScriptTexts.{spellings_apart}
use Rattle.model.proofs.Members.{unsigned_is, bytes_is, map_is, two_are, same_entries}

-- whole numbers with one item are one number
pub same_number : (a b : ℤ) → item_of_number a ≡ item_of_number b → a ≡ b
same_number (pos m) (pos n) e = cc
same_number (negsuc m) (negsuc n) e = cc
same_number a b e = absurd cc

module _ {Q : Type 0} (item_of : Q → Item) (one : (a b : Q) → item_of a ≡ item_of b → a ≡ b) where
  same_token : (a b : Token Q) → (entry_of_token item_of a).0 ≡ (entry_of_token item_of b).0 → (entry_of_token item_of a).1 ≡ (entry_of_token item_of b).1 → a ≡ b
  same_token a b k v = λ i. record { name = bytes_is a.name b.name k i; quantity = one a.quantity b.quantity v i }

  same_tokens : (xs ys : List (Token Q)) → map_of (map (entry_of_token item_of) xs) ≡ map_of (map (entry_of_token item_of) ys) → xs ≡ ys
  same_tokens xs ys e =
      same_entries (entry_of_token item_of) same_token xs ys (map_is (pairs_of (map (entry_of_token item_of) xs)) (pairs_of (map (entry_of_token item_of) ys)) e)

  same_policy : (a b : Policy Q) → (entry_of_policy item_of a).0 ≡ (entry_of_policy item_of b).0 → (entry_of_policy item_of a).1 ≡ (entry_of_policy item_of b).1 → a ≡ b
  same_policy a b k v = λ i. record { id = bytes_is a.id b.id k i; tokens = same_tokens a.tokens b.tokens v i }

  -- assets with one item are the same
  pub same_assets : (xs ys : List (Policy Q)) → item_of_assets item_of xs ≡ item_of_assets item_of ys → xs ≡ ys
  same_assets xs ys e =
      same_entries (entry_of_policy item_of) same_policy xs ys (map_is (pairs_of (map (entry_of_policy item_of) xs)) (pairs_of (map (entry_of_policy item_of) ys)) e)

same_coin : (m n : ℕ) (xs ys : List (Policy ℕ)) → coin_with m xs ≡ coin_with n ys → (m ≡ n) × (xs ≡ ys)
same_coin m n [] [] e = (unsigned_is m n e, refl)
same_coin m n (x ∷ xs) (y ∷ ys) e =
    let both = two_are (Unsigned m) (item_of_assets Unsigned (x ∷ xs)) (Unsigned n) (item_of_assets Unsigned (y ∷ ys)) e in
    (unsigned_is m n both.0, same_assets Unsigned unsigned_is (x ∷ xs) (y ∷ ys) both.1)
same_coin m n xs ys e = absurd cc

-- values with one item are one value
pub same_value : (a b : Value) → item_of_value a ≡ item_of_value b → a ≡ b
same_value a b e =
    let both = same_coin a.coin b.coin a.assets b.assets e in
    λ i. record { coin = both.0 i; assets = both.1 i }

-- mints with one item are one mint
pub same_mint : (a b : Mint) → item_of_assets item_of_number a ≡ item_of_assets item_of_number b → a ≡ b
same_mint = same_assets item_of_number same_number

-- ---- texts

-- values with one text are one value
pub one_value : (a b : Value) (bytes : List ℕ) → SpellsValue a bytes → SpellsValue b bytes → a ≡ b
one_value a b bytes p q = same_value a b (one_item (item_of_value a) (item_of_value b) bytes p.spelled q.spelled)

-- no value's text begins another's
pub values_apart : (a b : Value) (s t x y : List ℕ) → SpellsValue a s → SpellsValue b t → s ++ x ≡ t ++ y → (a ≡ b) × (x ≡ y)
values_apart a b s t x y p q e =
    let both = spellings_apart (item_of_value a) (item_of_value b) s t x y p.spelled q.spelled e in
    (same_value a b both.0, both.1)

-- mints with one text are one mint
pub one_mint : (a b : Mint) (bytes : List ℕ) → SpellsMint a bytes → SpellsMint b bytes → a ≡ b
one_mint a b bytes p q = same_mint a b (one_item (item_of_assets item_of_number a) (item_of_assets item_of_number b) bytes p.spelled q.spelled)

-- no mint's text begins another's
pub mints_apart : (a b : Mint) (s t x y : List ℕ) → SpellsMint a s → SpellsMint b t → s ++ x ≡ t ++ y → (a ≡ b) × (x ≡ y)
mints_apart a b s t x y p q e =
    let both = spellings_apart (item_of_assets item_of_number a) (item_of_assets item_of_number b) s t x y p.spelled q.spelled e in
    (same_mint a b both.0, both.1)
