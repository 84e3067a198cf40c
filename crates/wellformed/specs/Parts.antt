-- The parts of which texts are made (RFC 8949, 3): heads, the bytes of a byte string, members and entries.
use Rattle.std.specs.Prelude.{◌≡◌, ◌⊎◌, ℕ, ◌/◌, ◌%◌, ◌^◌, ◌<◌, ◌≤◌, List, [], ◌∷◌, ◌++◌, length, nat_lt, if◌then◌else◌}
use Rattle.std.specs.Int.{w16, w32, w64, to_be_bytes}
use Rattle.std.specs.List.{AllByRecursion}
use Rattle.model.specs.Cbor.{Item, Items, Pairs, items_count, pairs_count, text_of, items_text, pairs_text}
use Rattle.model.specs.Cbor.{items_nesting, pairs_nesting, ItemsAreInRange, PairsAreInRange}
use Rattle.wellformed.specs.Misfits.{IsFormed}

-- ---- heads

-- the low five bits of the first byte of a head with this argument: `head major n` is `32 * major + low_bits n`, and
-- `tail_of n` behind it
unfoldable pub low_bits : ℕ → ℕ
low_bits n =
    if nat_lt n 24 then n
    else if nat_lt n 256 then 24
    else if nat_lt n 65536 then 25
    else if nat_lt n 4294967296 then 26
    else 27

-- the bytes after it
unfoldable pub tail_of : ℕ → List ℕ
tail_of n =
    if nat_lt n 24 then []
    else if nat_lt n 256 then n ∷ []
    else if nat_lt n 65536 then to_be_bytes w16 n
    else if nat_lt n 4294967296 then to_be_bytes w32 n
    else to_be_bytes w64 n

-- the bytes after the first one of a head whose first byte has these low five bits
pub record IsTail (low : ℕ) (text : List ℕ) : Type 0 where
  pub argument : ℕ
  pub fits : argument < 2 ^ 64
  pub low_is : low_bits argument ≡ low
  pub is : text ≡ tail_of argument

-- the bytes begin so, with this argument, and these are left
pub record FindsTail (low argument : ℕ) (bytes rest : List ℕ) : Type 0 where
  pub fits : argument < 2 ^ 64
  pub low_is : low_bits argument ≡ low
  pub parts : bytes ≡ tail_of argument ++ rest

-- ---- first bytes

-- the byte begins a number or a byte string
abbrev pub BeginsPlain : ℕ → Type 0
BeginsPlain first = (first / 32 < 3) × (first % 32 < 28)

-- the byte begins an array or a map, which is empty where nothing may nest in it
abbrev pub BeginsNest : ℕ → ℕ → Type 0
BeginsNest depth first = (4 ≤ first / 32) × (first / 32 < 6) × (first % 32 < 28) × ((first % 32 ≡ 0) ⊎ (1 < depth))

-- the byte is null
abbrev pub IsNull : ℕ → Type 0
IsNull first = (first / 32 ≡ 7) × (first % 32 ≡ 22)

-- the byte begins an item that nests at most so deep, which is 1 at least
abbrev pub MayBegin : ℕ → ℕ → Type 0
MayBegin depth first = BeginsPlain first ⊎ (BeginsNest depth first ⊎ IsNull first)

-- ---- contents

-- the text is `count` bytes
pub record HasBytes (count : ℕ) (text : List ℕ) : Type 0 where
  pub counted : length text ≡ count
  pub are_bytes : AllByRecursion (λ b. b < 256) text

-- the text of a formed item
pub record IsItemText (depth : ℕ) (text : List ℕ) : Type 0 where
  pub item : Item
  pub formed : IsFormed depth item
  pub is : text ≡ text_of item

-- formed items
pub record AreFormed (depth : ℕ) (is : Items) : Type 0 where
  pub in_range : ItemsAreInRange is
  pub nest : items_nesting is ≤ depth

-- the texts of `count` formed items, one after the other
pub record AreMembers (depth count : ℕ) (text : List ℕ) : Type 0 where
  pub members : Items
  pub formed : AreFormed depth members
  pub counted : items_count members ≡ count
  pub is : text ≡ items_text members

-- the text of a formed key, and that of a formed value
pub record IsEntryText (depth : ℕ) (text : List ℕ) : Type 0 where
  pub key : Item
  pub value : Item
  pub key_formed : IsFormed depth key
  pub value_formed : IsFormed depth value
  pub is : text ≡ text_of key ++ text_of value

-- formed keys and values
pub record EntriesAreFormed (depth : ℕ) (ps : Pairs) : Type 0 where
  pub in_range : PairsAreInRange ps
  pub nest : pairs_nesting ps ≤ depth

-- the texts of `count` entries of formed keys and values, one after the other
pub record AreEntries (depth count : ℕ) (text : List ℕ) : Type 0 where
  pub entries : Pairs
  pub formed : EntriesAreFormed depth entries
  pub counted : pairs_count entries ≡ count
  pub is : text ≡ pairs_text entries
