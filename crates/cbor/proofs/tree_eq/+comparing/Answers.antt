use Rattle.cbor.proofs.TreeEqs.{other_count, other_count_of_entries}
use Rattle.cbor.proofs.tree_eq.+comparing.Goals as goal

pub same_entries-returns-then-entries-others : goal.same_entries-returns-then-entries-others
same_entries-returns-then-entries-others t c = other_count_of_entries c.args.entries.now c.args.others.now c.if-entries-others.true

pub same_members-returns-then-members-others : goal.same_members-returns-then-members-others
same_members-returns-then-members-others t c = other_count c.args.members.now c.args.others.now c.if-members-others.true
