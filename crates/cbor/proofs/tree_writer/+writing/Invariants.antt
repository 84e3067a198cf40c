-- What each loop has written and what it has still to write is the whole. The measures go down with the nesting.
use Rattle.std.proofs.Common.{◌≡◌, ◌+◌, ◌*◌, ◌++◌, drop}
use Rattle.model.specs.Cbor as cbor
use Rattle.model.specs.Cbor.{items_text, pairs_text}
use Rattle.cbor.specs.Tree.{item_of, members_of, entries_of}
use Rattle.cbor.proofs.tree_writer.+writing.Given as goal

abbrev pub decreases-write_item : goal.decreases-write_item
decreases-write_item l = 2 * cbor.nesting (item_of l.item.now)

abbrev pub decreases-write_members : goal.decreases-write_members
decreases-write_members l = 2 * cbor.items_nesting (members_of l.members.now) + 1

abbrev pub decreases-write_entries : goal.decreases-write_entries
decreases-write_entries l = 2 * cbor.pairs_nesting (entries_of l.entries.now) + 1

abbrev pub invariant-write_members-loop-member : goal.invariant-write_members-loop-member
invariant-write_members-loop-member l = l.out.items ++ items_text (members_of (drop l.member-index l.members)) ≡ l.initial.out.items ++ items_text (members_of l.members)

abbrev pub invariant-write_entries-loop-entry : goal.invariant-write_entries-loop-entry
invariant-write_entries-loop-entry l = l.out.items ++ pairs_text (entries_of (drop l.entry-index l.entries)) ≡ l.initial.out.items ++ pairs_text (entries_of l.entries)
