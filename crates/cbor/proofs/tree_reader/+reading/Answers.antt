use Rattle.std.proofs.Common.{◌≡◌, [], Some, arith, inl, inr, rules}
use Rattle.std.proofs.lemmas.Result.{err_from_is_err_and}
use Rattle.cbor.specs.Tree.{item_of, members_of, entries_of}
use Rattle.cbor.specs.Reading.{head_at}
use Rattle.cbor.specs.ItemReading.{item_at, items_at, pairs_at}
use Rattle.cbor.specs.Bare.{AnnouncesParts}
use Rattle.cbor.proofs.Reading.{head_takes}
use Rattle.cbor.proofs.Wants.{wants_anyway}
use Rattle.cbor.proofs.ItemLaws.{rest_is_shorter}
use Rattle.cbor.proofs.TreeLoops.{members_of-push, items_go_on, items_end, items_done, entries_of-push, pairs_go_on, pairs_end, pairs_done}
use Rattle.cbor.proofs.tree_reader.+reading.Goals as goal

pub entries-returns-in_err-next-clause-exact : goal.entries-returns-in_err-next-clause-exact
entries-returns-in_err-next-clause-exact t c =
    let p = err_from_is_err_and c.from_residual.result c.from_residual.ensures.1 in
    rw (p.1, p.2) (pairs_end (item_at c.args.depth) c.in_err-next.field-0.0 (entries_of c.loop.entries.items) c.loop.before.now c.args.count c.loop.counter c.loop.rest.now (pairs_at (item_at c.args.depth) [] c.args.count c.args.bytes.now) c.loop-test.true c.in_err-next.ensures c.loop.invariant)

pub entries-loop-preserved : goal.entries-loop-preserved
entries-loop-preserved t c =
    let n = c.in_ok-next.next in
    let e : entries_of c.push.new.self.items ≡ _ = rw c.in_ok-push.ensures.items (entries_of-push c.loop.entries.items n) in
    rw e (pairs_go_on (item_at c.args.depth) (entries_of c.loop.entries.items) c.loop.before.now c.args.count c.loop.counter c.loop.rest.now (item_of n.key) (item_of n.value) c.in_ok-next.text.now c.in_ok-next.after.now (pairs_at (item_at c.args.depth) [] c.args.count c.args.bytes.now) c.loop-test.true c.in_ok-next.ensures c.loop.invariant)

pub entries-returns-clause-exact : goal.entries-returns-clause-exact
entries-returns-clause-exact t c = rw c.from_vec.ensures (pairs_done (item_at c.args.depth) (entries_of c.loop.entries.items) c.loop.before.now c.args.count c.loop.counter c.loop.rest.now (pairs_at (item_at c.args.depth) [] c.args.count c.args.bytes.now) c.loop-test.false c.loop.invariant)

pub entry-slice_bounds-text-count : goal.entry-slice_bounds-text-count
entry-slice_bounds-text-count t c = rest_is_shorter c.args.depth c.args.bytes.now (item_of c.in_ok-key.key) c.in_ok-key.after_key.now (λ i. omega (arith, c.type_inv.bytes i)) c.in_ok-key.ensures.exact

pub members-returns-in_err-member-clause-exact : goal.members-returns-in_err-member-clause-exact
members-returns-in_err-member-clause-exact t c =
    let p = err_from_is_err_and c.from_residual.result c.from_residual.ensures.1 in
    rw (p.1, p.2) (items_end (item_at c.args.depth) c.in_err-member.field-0.0 (members_of c.loop.members.items) c.args.count c.loop.counter c.loop.rest.now (items_at (item_at c.args.depth) c.args.count c.args.bytes.now) c.loop-test.true c.in_err-member.ensures.exact c.loop.invariant)

pub members-loop-preserved : goal.members-loop-preserved
members-loop-preserved t c =
    let n = c.in_ok-member.member in
    let e : members_of c.push.new.self.items ≡ _ = rw c.in_ok-push.ensures.items (members_of-push c.loop.members.items n) in
    rw e (items_go_on (item_at c.args.depth) (members_of c.loop.members.items) c.args.count c.loop.counter c.loop.rest.now (item_of n) c.in_ok-member.after.now (items_at (item_at c.args.depth) c.args.count c.args.bytes.now) c.loop-test.true c.in_ok-member.ensures.exact c.loop.invariant)

pub members-returns-clause-exact : goal.members-returns-clause-exact
members-returns-clause-exact t c = rw c.from_vec.ensures (items_done (item_at c.args.depth) (members_of c.loop.members.items) c.args.count c.loop.counter c.loop.rest.now (items_at (item_at c.args.depth) c.args.count c.args.bytes.now) c.loop-test.false c.loop.invariant)

pub array-returns-in_err-members-clause-begins : goal.array-returns-in_err-members-clause-begins
array-returns-in_err-members-clause-begins t c =
    let h : head_at 4 c.args.bytes.now ≡ Some (c.in_ok-count.count, c.in_ok-count.rest.now) = search rules in
    let taken = head_takes 4 c.args.bytes.now c.in_ok-count.count c.in_ok-count.rest.now (λ i. omega (arith, c.type_inv.bytes i)) h in
    let heads = taken.0 in
    wants_anyway c.from_residual-in_err-members.result (AnnouncesParts c.args.bytes.now) (inr (inl (record { count = c.in_ok-count.count; some = c.in_err-members.ensures.some; fits = taken.1; begins = record { rest = c.in_ok-count.rest.now; parts = heads.parts } })))

pub map-returns-in_err-entries-clause-begins : goal.map-returns-in_err-entries-clause-begins
map-returns-in_err-entries-clause-begins t c =
    let h : head_at 5 c.args.bytes.now ≡ Some (c.in_ok-count.count, c.in_ok-count.rest.now) = search rules in
    let taken = head_takes 5 c.args.bytes.now c.in_ok-count.count c.in_ok-count.rest.now (λ i. omega (arith, c.type_inv.bytes i)) h in
    let heads = taken.0 in
    wants_anyway c.from_residual-in_err-entries.result (AnnouncesParts c.args.bytes.now) (inr (inr (record { count = c.in_ok-count.count; some = c.in_err-entries.ensures.some; fits = taken.1; begins = record { rest = c.in_ok-count.rest.now; parts = heads.parts } })))
