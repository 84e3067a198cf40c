-- Reading items from left to right, each with what is in it: a reading gives the value that stands first
-- and the bytes after it, or None where no item that has a text stands there.
use Rattle.std.specs.Prelude.{ℕ, zero, suc, List, [], ◌∷◌, Option, Some, None, ◌/◌, ◌==◌, if◌then◌else◌}
use Rattle.std.specs.Ordering.{nat_cmp, is_lt}
use Rattle.std.specs.Cmp.Lexicographic.{slice_cmp}
use Rattle.model.specs.Cbor.{Item, Items, Pairs, Unsigned, Negative, Bytes, Array, Map, Null, NoItems, NextItem}
use Rattle.model.specs.Cbor.{NoPairs, NextPair}
use Rattle.cbor.specs.Reading.{◌>>=◌, guard, front, head_at, bytes_at, null_at}

-- a reading of one item
abbrev pub Reader : Type 0
Reader = List ℕ → Option (Item × List ℕ)

-- `count` members, one after the other
unfoldable pub items_at : Reader → ℕ → List ℕ → Option (Items × List ℕ)
items_at read zero bytes = Some (NoItems, bytes)
items_at read (suc count) bytes = do
  first ← read bytes
  others ← items_at read count first.1
  Some (NextItem first.0 others.0, others.1)

-- An entry whose key's text stands after this one: the key, the value, the text of the key, and the bytes
-- after the entry.
unfoldable pub pair_at : Reader → List ℕ → List ℕ → Option (Item × Item × List ℕ × List ℕ)
pair_at read before bytes = do
  key ← read bytes
  rises ← guard (is_lt (slice_cmp nat_cmp before (front bytes key.1)))
  value ← read key.1
  Some (key.0, value.0, front bytes key.1, value.1)

-- `count` entries, one after the other, whose keys' texts rise strictly from this one on
unfoldable pub pairs_at : Reader → List ℕ → ℕ → List ℕ → Option (Pairs × List ℕ)
pairs_at read before zero bytes = Some (NoPairs, bytes)
pairs_at read before (suc count) bytes = do
  first ← pair_at read before bytes
  others ← pairs_at read first.2 count first.3
  Some (NextPair first.0 first.1 others.0, others.1)

-- an array, whose members are read so
unfoldable pub array_item_at : Reader → List ℕ → Option (Item × List ℕ)
array_item_at read bytes = do
  count ← head_at 4 bytes
  members ← items_at read count.0 count.1
  Some (Array members.0, members.1)

-- a map, whose keys and values are read so; no text stands before the first key's
unfoldable pub map_item_at : Reader → List ℕ → Option (Item × List ℕ)
map_item_at read bytes = do
  count ← head_at 5 bytes
  entries ← pairs_at read [] count.0 count.1
  Some (Map entries.0, entries.1)

-- an item that is no array and no map, of the major type
unfoldable pub single_at : ℕ → List ℕ → Option (Item × List ℕ)
single_at major bytes =
    if major == 0 then (do
      n ← head_at 0 bytes
      Some (Unsigned n.0, n.1))
    else if major == 1 then (do
      n ← head_at 1 bytes
      Some (Negative n.0, n.1))
    else if major == 2 then (do
      text ← bytes_at bytes
      Some (Bytes text.0, text.1))
    else (do
      rest ← null_at bytes
      Some (Null, rest))

-- an item of the major type, whose members, keys and values are read so
unfoldable pub item_of_major : Reader → ℕ → Reader
item_of_major read major bytes =
    if major == 4 then array_item_at read bytes
    else if major == 5 then map_item_at read bytes
    else single_at major bytes

-- an item, whose members, keys and values are read so
unfoldable pub item_with : Reader → Reader
item_with read [] = None
item_with read (first ∷ rest) = item_of_major read (first / 32) (first ∷ rest)

-- an item that nests at most so deep
unfoldable pub item_at : ℕ → Reader
item_at zero bytes = None
item_at (suc depth) bytes = item_with (item_at depth) bytes
