use Rattle.std.proofs.Common.{◌∙◌, arith}
use Rattle.cbor.proofs.TreeWrites.{member_nests, entry_nests}
use Rattle.cbor.proofs.TreeCopies.{member_copied, members_copied, entry_copied, entries_copied}
use Rattle.cbor.proofs.tree_clone.+cloning.Goals as goal

pub clone_entries-clone_item-requires : goal.clone_entries-clone_item-requires
clone_entries-clone_item-requires t c =
    let n = entry_nests c.args.entries.now c.loop-entry.entry-index c.entry-item.result c.loop-entry-test.true c.entry-item.is in
    (omega (arith, n.0, c.decreases), tt)

pub clone_entries-clone_item-requires-in-loop-entry : goal.clone_entries-clone_item-requires-in-loop-entry
clone_entries-clone_item-requires-in-loop-entry t c =
    let n = entry_nests c.args.entries.now c.loop-entry.entry-index c.entry-item.result c.loop-entry-test.true c.entry-item.is in
    (omega (arith, n.1, c.decreases), tt)

pub clone_entries-loop-entry-preserved : goal.clone_entries-loop-entry-preserved
clone_entries-loop-entry-preserved t c =
    rw c.in_ok-push.ensures.items (entry_copied c.loop-entry.copies.items c.args.entries.now c.loop-entry.entry-index c.entry-item.result (record { key = c.in_ok-key.key; value = c.in_ok-value.value }) c.loop-entry-test.true c.entry-item.is c.in_ok-key.ensures c.in_ok-value.ensures c.loop-entry.invariant)

pub clone_entries-returns : goal.clone_entries-returns
clone_entries-returns t c = c.from_vec.ensures ∙ entries_copied c.loop-entry.copies.items c.args.entries.now c.loop-entry.entry-index c.loop-entry-test.false c.loop-entry.invariant

pub clone_members-clone_item-requires : goal.clone_members-clone_item-requires
clone_members-clone_item-requires t c =
    let n = member_nests c.args.members.now c.loop-member.member-index c.member-item.result c.loop-member-test.true c.member-item.is in
    (omega (arith, n, c.decreases), tt)

pub clone_members-loop-member-preserved : goal.clone_members-loop-member-preserved
clone_members-loop-member-preserved t c =
    rw c.in_ok-push.ensures.items (member_copied c.loop-member.copies.items c.args.members.now c.loop-member.member-index c.member-item.result c.in_ok-clone_item.field-0 c.loop-member-test.true c.member-item.is c.in_ok-clone_item.ensures c.loop-member.invariant)

pub clone_members-returns : goal.clone_members-returns
clone_members-returns t c = c.from_vec.ensures ∙ members_copied c.loop-member.copies.items c.args.members.now c.loop-member.member-index c.loop-member-test.false c.loop-member.invariant
