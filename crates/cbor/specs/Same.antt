-- When two items are the same: they are of one kind, with one number, with the same bytes, or with the same items in
-- them in the same order.
use Rattle.std.specs.Prelude.{Bool, true, false, ◌&&◌, ◌==◌, bytes_eq}
use Rattle.model.specs.Cbor as cbor
use Rattle.cbor.specs.declared.item.Item.{Item}
use Rattle.cbor.specs.declared.item.Entry.{Entry}
use Rattle.cbor.specs.Tree.{item_of}

abbrev mutual
  pub item_eq : cbor.Item → cbor.Item → Bool
  item_eq (cbor.Unsigned m) (cbor.Unsigned n) = m == n
  item_eq (cbor.Negative m) (cbor.Negative n) = m == n
  item_eq (cbor.Bytes bs) (cbor.Bytes cs) = bytes_eq bs cs
  item_eq (cbor.Array is) (cbor.Array js) = items_eq is js
  item_eq (cbor.Map ps) (cbor.Map qs) = pairs_eq ps qs
  item_eq cbor.Null cbor.Null = true
  item_eq _ _ = false

  -- members of two arrays
  pub items_eq : cbor.Items → cbor.Items → Bool
  items_eq cbor.NoItems cbor.NoItems = true
  items_eq (cbor.NextItem i is) (cbor.NextItem j js) = item_eq i j && items_eq is js
  items_eq _ _ = false

  -- entries of two maps
  pub pairs_eq : cbor.Pairs → cbor.Pairs → Bool
  pairs_eq cbor.NoPairs cbor.NoPairs = true
  pairs_eq (cbor.NextPair k v ps) (cbor.NextPair l w qs) = item_eq k l && item_eq v w && pairs_eq ps qs
  pairs_eq _ _ = false

-- items as the program holds them
abbrev pub same_item : Item → Item → Bool
same_item i j = item_eq (item_of i) (item_of j)

-- entries as the program holds them
abbrev pub same_entry : Entry → Entry → Bool
same_entry e f = same_item e.key f.key && same_item e.value f.value
