use Rattle.std.proofs.Common.{arith}
use Rattle.std.proofs.lemmas.Result.{on_ok_weaker}
use Rattle.cbor.proofs.TreeWrites.{member_nests, entry_nests, array_written, map_written}
use Rattle.cbor.proofs.tree_writer.+writing.Goals as goal

pub write_entries-write_item-requires : goal.write_entries-write_item-requires
write_entries-write_item-requires t c =
    let n = entry_nests c.args.entries.now c.loop-entry.entry-index c.entry-item.result c.loop-entry-test.true c.entry-item.is in
    (omega (arith, n.0, c.decreases), tt)

pub write_entries-write_item-requires-in-loop-entry : goal.write_entries-write_item-requires-in-loop-entry
write_entries-write_item-requires-in-loop-entry t c =
    let n = entry_nests c.args.entries.now c.loop-entry.entry-index c.entry-item.result c.loop-entry-test.true c.entry-item.is in
    (omega (arith, n.1, c.decreases), tt)

pub write_item-returns-in_ok-write_array-in-Array : goal.write_item-returns-in_ok-write_array-in-Array
write_item-returns-in_ok-write_array-in-Array t c =
    rw c.in-Array.is (on_ok_weaker c.write_members.result (array_written c.as_slice-members.result.now c.in-Array.members c.args.out.now.items c.write_array.new.out.items c.write_members.new.out.items c.as_slice-members.ensures c.in_ok-write_array-in-Array.ensures.ok) c.write_members.ensures)

pub write_item-returns-in_ok-write_map-in-Map : goal.write_item-returns-in_ok-write_map-in-Map
write_item-returns-in_ok-write_map-in-Map t c =
    rw c.in-Map.is (on_ok_weaker c.write_entries.result (map_written c.as_slice-entries.result.now c.in-Map.entries c.args.out.now.items c.write_map.new.out.items c.write_entries.new.out.items c.as_slice-entries.ensures c.in_ok-write_map-in-Map.ensures.ok) c.write_entries.ensures)

pub write_members-write_item-requires : goal.write_members-write_item-requires
write_members-write_item-requires t c =
    let n = member_nests c.args.members.now c.loop-member.member-index c.member-item.result c.loop-member-test.true c.member-item.is in
    (omega (arith, n, c.decreases), tt)
