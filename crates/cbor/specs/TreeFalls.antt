-- How deep a tree is as the program holds it is bounded by its nesting, so that what goes down it ends.
use Rattle.std.specs.Prelude.{◌≤◌, max, List, [], ◌∷◌}
use Rattle.std.proofs.Common.{arith}
use denote.Param.Weighed.{most}
use Rattle.model.specs.Cbor as cbor
use Rattle.cbor.specs.declared.item.Item.{Item}
use Rattle.cbor.specs.declared.item.Item.TheVariants.{Unsigned, Negative, Bytes, Array, Map, Null}
use Rattle.cbor.specs.declared.item.Entry.{Entry}
use Rattle.cbor.specs.declared.item.Entries.TheDeep.{deep-Item, deep-Entry}
use Rattle.cbor.specs.Tree.{item_of, members_of, entries_of}

item_falls : (i : Item) → deep-Item i ≤ cbor.nesting (item_of i)
item_falls (Unsigned n) = omega arith
item_falls (Negative n) = omega arith
item_falls (Bytes bytes) = omega arith
item_falls (Array members) = omega arith
item_falls (Map entries) = omega arith
item_falls Null = omega arith

-- no member is deeper than the members nest
pub members_fall : (is : List Item) → max (most deep-Item is) 0 ≤ cbor.items_nesting (members_of is)
members_fall [] = omega arith
members_fall (i ∷ is) = omega (arith, item_falls i, members_fall is)

-- no key and no value is deeper than the entries nest
pub entries_fall : (es : List Entry) → max (most deep-Entry es) 0 ≤ cbor.pairs_nesting (entries_of es)
entries_fall [] = omega arith
entries_fall (e ∷ es) = omega (arith, item_falls e.key, item_falls e.value, entries_fall es)
