-- Items without parts, whose reading asks for no memory, and what bytes begin with where a reading may ask for some.
use Rattle.std.specs.Prelude.{◌≡◌, ◌⊎◌, ℕ, ◌<◌, ◌^◌, List, [], ◌++◌}
use Rattle.model.specs.Cbor.{Item, Unsigned, Negative, Bytes, Array, Map, Null, NoItems, NoPairs, head}

-- no byte, no member and no entry is in the item
abbrev pub IsBareItem : Item → Type 0
IsBareItem (Unsigned n) = Unit {0}
IsBareItem (Negative n) = Unit {0}
IsBareItem (Bytes bs) = bs ≡ []
IsBareItem (Array is) = is ≡ NoItems
IsBareItem (Map ps) = ps ≡ NoPairs
IsBareItem Null = Unit {0}

-- the bytes begin with the head of this major type and argument (RFC 8949, 3)
pub record BeginsWithHead (major argument : ℕ) (bytes : List ℕ) : Type 0 where
  pub rest : List ℕ
  pub parts : bytes ≡ head major argument ++ rest

-- they begin with a head of this major type that announces one part at least
pub record BeginsWithSome (major : ℕ) (bytes : List ℕ) : Type 0 where
  pub count : ℕ
  pub some : 0 < count
  pub fits : count < 2 ^ 64
  pub begins : BeginsWithHead major count bytes

-- they begin with the head of a byte string, an array or a map that is not empty
abbrev pub AnnouncesParts : List ℕ → Type 0
AnnouncesParts bytes = BeginsWithSome 2 bytes ⊎ (BeginsWithSome 4 bytes ⊎ BeginsWithSome 5 bytes)
