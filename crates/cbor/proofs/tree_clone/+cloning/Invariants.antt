-- The copies that each loop has made and what it has still to copy are the whole. The measures go down with the nesting.
use Rattle.std.proofs.Common.{◌≡◌, ◌+◌, ◌*◌, drop}
use Rattle.model.specs.Cbor as cbor
use Rattle.cbor.specs.Tree.{item_of, members_of, entries_of}
use Rattle.cbor.proofs.TreeLoops.{members_then, entries_then}
use Rattle.cbor.proofs.tree_clone.+cloning.Given as goal

abbrev pub decreases-clone_item : goal.decreases-clone_item
decreases-clone_item l = 2 * cbor.nesting (item_of l.item.now)

abbrev pub decreases-clone_members : goal.decreases-clone_members
decreases-clone_members l = 2 * cbor.items_nesting (members_of l.members.now) + 1

abbrev pub decreases-clone_entries : goal.decreases-clone_entries
decreases-clone_entries l = 2 * cbor.pairs_nesting (entries_of l.entries.now) + 1

abbrev pub invariant-clone_members-loop-member : goal.invariant-clone_members-loop-member
invariant-clone_members-loop-member l = members_then (members_of l.copies.items) (members_of (drop l.member-index l.members)) ≡ members_of l.members

abbrev pub invariant-clone_entries-loop-entry : goal.invariant-clone_entries-loop-entry
invariant-clone_entries-loop-entry l = entries_then (entries_of l.copies.items) (entries_of (drop l.entry-index l.entries)) ≡ entries_of l.entries
