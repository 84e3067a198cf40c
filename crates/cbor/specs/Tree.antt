-- What items of the program stand for.
use Rattle.std.specs.Prelude.{List, [], ◌∷◌}
use Rattle.model.specs.Cbor as cbor
use Rattle.cbor.specs.declared.item.Item.{Item}
use Rattle.cbor.specs.declared.item.Item.TheVariants.{Unsigned, Negative, Bytes, Array, Map, Null}
use Rattle.cbor.specs.declared.item.Entry.{Entry}

-- the item that the program's stands for
abbrev pub item_of : Item → cbor.Item
item_of (Unsigned n) = cbor.Unsigned n
item_of (Negative n) = cbor.Negative n
item_of (Bytes bytes) = cbor.Bytes bytes.items
item_of (Array members) = cbor.Array members
item_of (Map entries) = cbor.Map entries
item_of Null = cbor.Null

-- members of an array
abbrev pub members_of : List Item → cbor.Items
members_of [] = cbor.NoItems
members_of (i ∷ is) = cbor.NextItem (item_of i) (members_of is)

-- entries of a map
abbrev pub entries_of : List Entry → cbor.Pairs
entries_of [] = cbor.NoPairs
entries_of (e ∷ es) = cbor.NextPair (item_of e.key) (item_of e.value) (entries_of es)
