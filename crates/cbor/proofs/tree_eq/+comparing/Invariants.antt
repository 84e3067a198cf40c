-- What each loop has still to compare decides, and is no deeper. The measures go down with the nesting.
use Rattle.std.proofs.Common.{◌≡◌, ◌+◌, ◌*◌, ◌≤◌, max, length}
use Rattle.std.specs.Iterator.Adapters.{zip_first, zip_second}
use Rattle.std.specs.Slice.Iter.{iter_rest}
use Rattle.model.specs.Cbor as cbor
use Rattle.cbor.specs.Tree.{item_of, members_of, entries_of}
use Rattle.cbor.specs.Same.{items_eq, pairs_eq}
use Rattle.cbor.proofs.tree_eq.+comparing.Given as goal

abbrev pub decreases-same_item : goal.decreases-same_item
decreases-same_item l = 3 * cbor.nesting (item_of l.item.now)

abbrev pub decreases-same_entry : goal.decreases-same_entry
decreases-same_entry l = 3 * max (cbor.nesting (item_of l.entry.now.key)) (cbor.nesting (item_of l.entry.now.value)) + 1

abbrev pub decreases-same_members : goal.decreases-same_members
decreases-same_members l = 3 * cbor.items_nesting (members_of l.members.now) + 2

abbrev pub decreases-same_entries : goal.decreases-same_entries
decreases-same_entries l = 3 * cbor.pairs_nesting (entries_of l.entries.now) + 2

abbrev pub invariant-same_members-loop-member : goal.invariant-same_members-loop-member
invariant-same_members-loop-member l =
    let xs = iter_rest (zip_first l.member-iterator) in
    let ys = iter_rest (zip_second l.member-iterator) in
    (length xs ≡ length ys) × (items_eq (members_of xs) (members_of ys) ≡ items_eq (members_of l.members) (members_of l.others)) × (cbor.items_nesting (members_of xs) ≤ cbor.items_nesting (members_of l.members))

abbrev pub invariant-same_entries-loop-entry : goal.invariant-same_entries-loop-entry
invariant-same_entries-loop-entry l =
    let xs = iter_rest (zip_first l.entry-iterator) in
    let ys = iter_rest (zip_second l.entry-iterator) in
    (length xs ≡ length ys) × (pairs_eq (entries_of xs) (entries_of ys) ≡ pairs_eq (entries_of l.entries) (entries_of l.others)) × (cbor.pairs_nesting (entries_of xs) ≤ cbor.pairs_nesting (entries_of l.entries))
