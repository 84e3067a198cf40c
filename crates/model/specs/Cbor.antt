-- Deterministic CBOR (RFC 8949, 4.2.1), as far as blocks and transactions use it: unsigned and negative
-- numbers, byte strings, arrays, maps and null. Each item has one text.
use Rattle.std.specs.Prelude.{◌≡◌, ℕ, suc, ◌+◌, ◌*◌, ◌^◌, ◌<◌, ◌≤◌, max, List, [], ◌∷◌, ◌++◌, length, nat_lt}
use Rattle.std.specs.Prelude.{if◌then◌else◌}
use Rattle.std.specs.Int.{w16, w32, w64, to_be_bytes}
use Rattle.std.specs.List.{AllByRecursion}
use Rattle.std.specs.Ordering.{nat_cmp}
use Rattle.std.specs.declared.cmp.Ordering.TheVariants.{Less}
use Rattle.std.specs.Cmp.Lexicographic.{slice_cmp}
use Rattle.model.specs.Limits.{nesting_limit}

mutual
  -- an item (RFC 8949, 3.1); `Negative n` stands for -1 - n
  pub data Item : Type 0 where
    Unsigned : ℕ → Item
    Negative : ℕ → Item
    Bytes : List ℕ → Item
    Array : Items → Item
    Map : Pairs → Item
    Null : Item

  -- the members of an array, in order
  pub data Items : Type 0 where
    NoItems : Items
    NextItem : Item → Items → Items

  -- the entries of a map, each a key and a value, in order
  pub data Pairs : Type 0 where
    NoPairs : Pairs
    NextPair : Item → Item → Pairs → Pairs

-- how many members an array has
abbrev pub items_count : Items → ℕ
items_count NoItems = 0
items_count (NextItem i is) = suc (items_count is)

-- how many entries a map has
abbrev pub pairs_count : Pairs → ℕ
pairs_count NoPairs = 0
pairs_count (NextPair k v ps) = suc (pairs_count ps)

-- the array of these members
abbrev pub items_of : List Item → Items
items_of [] = NoItems
items_of (i ∷ is) = NextItem i (items_of is)

abbrev pub array_of : List Item → Item
array_of is = Array (items_of is)

-- the map of these entries
abbrev pub pairs_of : List (Item × Item) → Pairs
pairs_of [] = NoPairs
pairs_of (e ∷ es) = NextPair e.0 e.1 (pairs_of es)

abbrev pub map_of : List (Item × Item) → Item
map_of es = Map (pairs_of es)

-- the head of an item (RFC 8949, 3): its major type in the high three bits of the first byte, and its
-- argument in the shortest form, in the low five bits or in 1, 2, 4 or 8 bytes, the highest first
unfoldable pub head : ℕ → ℕ → List ℕ
head major n =
    if nat_lt n 24 then (32 * major + n) ∷ []
    else if nat_lt n 256 then (32 * major + 24) ∷ n ∷ []
    else if nat_lt n 65536 then (32 * major + 25) ∷ to_be_bytes w16 n
    else if nat_lt n 4294967296 then (32 * major + 26) ∷ to_be_bytes w32 n
    else (32 * major + 27) ∷ to_be_bytes w64 n

-- the text of an item: its head, and what the head announces (RFC 8949, 3.1 and 4.2.1)
abbrev mutual
  pub text_of : Item → List ℕ
  text_of (Unsigned n) = head 0 n
  text_of (Negative n) = head 1 n
  text_of (Bytes bs) = head 2 (length bs) ++ bs
  text_of (Array is) = head 4 (items_count is) ++ items_text is
  text_of (Map ps) = head 5 (pairs_count ps) ++ pairs_text ps
  text_of Null = head 7 22

  pub items_text : Items → List ℕ
  items_text NoItems = []
  items_text (NextItem i is) = text_of i ++ items_text is

  pub pairs_text : Pairs → List ℕ
  pairs_text NoPairs = []
  pairs_text (NextPair k v ps) = text_of k ++ (text_of v ++ pairs_text ps)

-- how deep an item nests: 1 for itself, and one more than its deepest member (this project's own)
abbrev mutual
  pub nesting : Item → ℕ
  nesting (Unsigned n) = 1
  nesting (Negative n) = 1
  nesting (Bytes bs) = 1
  nesting (Array is) = suc (items_nesting is)
  nesting (Map ps) = suc (pairs_nesting ps)
  nesting Null = 1

  pub items_nesting : Items → ℕ
  items_nesting NoItems = 0
  items_nesting (NextItem i is) = max (nesting i) (items_nesting is)

  pub pairs_nesting : Pairs → ℕ
  pairs_nesting NoPairs = 0
  pairs_nesting (NextPair k v ps) = max (max (nesting k) (nesting v)) (pairs_nesting ps)

-- each argument has at most 8 bytes, and a byte string has bytes (RFC 8949, 3)
abbrev mutual
  pub IsInRange : Item → Type 0
  IsInRange (Unsigned n) = n < 2 ^ 64
  IsInRange (Negative n) = n < 2 ^ 64
  IsInRange (Bytes bs) = (length bs < 2 ^ 64) × AllByRecursion (λ b. b < 256) bs
  IsInRange (Array is) = (items_count is < 2 ^ 64) × ItemsAreInRange is
  IsInRange (Map ps) = (pairs_count ps < 2 ^ 64) × PairsAreInRange ps
  IsInRange Null = Unit {0}

  pub ItemsAreInRange : Items → Type 0
  ItemsAreInRange NoItems = Unit {0}
  ItemsAreInRange (NextItem i is) = IsInRange i × ItemsAreInRange is

  pub PairsAreInRange : Pairs → Type 0
  PairsAreInRange NoPairs = Unit {0}
  PairsAreInRange (NextPair k v ps) = IsInRange k × IsInRange v × PairsAreInRange ps

-- the key stands before the first one of these entries, in the bytewise order of texts
abbrev pub IsBeforeFirst : Item → Pairs → Type 0
IsBeforeFirst k NoPairs = Unit {0}
IsBeforeFirst k (NextPair l v ps) = slice_cmp nat_cmp (text_of k) (text_of l) ≡ Less

-- the keys of each map rise strictly, in the bytewise order of their texts (RFC 8949, 4.2.1)
abbrev mutual
  pub HasRisingKeys : Item → Type 0
  HasRisingKeys (Unsigned n) = Unit {0}
  HasRisingKeys (Negative n) = Unit {0}
  HasRisingKeys (Bytes bs) = Unit {0}
  HasRisingKeys (Array is) = ItemsHaveRisingKeys is
  HasRisingKeys (Map ps) = PairsHaveRisingKeys ps
  HasRisingKeys Null = Unit {0}

  pub ItemsHaveRisingKeys : Items → Type 0
  ItemsHaveRisingKeys NoItems = Unit {0}
  ItemsHaveRisingKeys (NextItem i is) = HasRisingKeys i × ItemsHaveRisingKeys is

  pub PairsHaveRisingKeys : Pairs → Type 0
  PairsHaveRisingKeys NoPairs = Unit {0}
  PairsHaveRisingKeys (NextPair k v ps) = HasRisingKeys k × HasRisingKeys v × IsBeforeFirst k ps
      × PairsHaveRisingKeys ps

-- which items have a text: none nests deeper than the limit (this project's own)
pub record HasText (item : Item) : Type 0 where
  pub in_range : IsInRange item
  pub rising : HasRisingKeys item
  pub nests : nesting item ≤ nesting_limit

-- the bytes are the one text of the item
pub record Spells (item : Item) (bytes : List ℕ) : Type 0 where
  pub has_text : HasText item
  pub spelled : bytes ≡ text_of item
