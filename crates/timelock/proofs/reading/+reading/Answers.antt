use Rattle.std.proofs.Common.{◌≡◌, map, Some, arith, rules}
use Rattle.std.proofs.lemmas.Result.{err_from_is_err_and}
use Rattle.cbor.specs.Shapes.{list_at}
use Rattle.cbor.proofs.ForCallers.{map_push, list_goes_on, list_ends, list_done, head_takes, wants_anyway}
use Rattle.timelock.specs.View.{timelock_of}
use Rattle.cbor.specs.Reading.{head_at}
use Rattle.timelock.specs.Reading.{members_of_kind, script_at}
use Rattle.timelock.specs.Bare.{BeginsLikeScript}
use Rattle.timelock.proofs.Opened.{script_opened}
use Rattle.timelock.proofs.Bare.{some_scripts, script_head}
use Rattle.timelock.proofs.reading.+reading.Goals as goal

pub list-returns-in_err-next-clause-exact : goal.list-returns-in_err-next-clause-exact
list-returns-in_err-next-clause-exact t c =
    let read = script_at c.args.depth in
    let p = err_from_is_err_and c.from_residual.result c.from_residual.ensures.1 in
    rw (p.1, p.2) (list_ends read c.in_err-next.field-0.0 (map timelock_of c.loop.list.items) c.args.count c.loop.counter c.loop.rest.now (list_at read c.args.count c.args.bytes.now) c.loop-test.true c.in_err-next.ensures.exact c.loop.invariant)

pub list-loop-preserved : goal.list-loop-preserved
list-loop-preserved t c =
    let read = script_at c.args.depth in
    let n = c.in_ok-next.next in
    rw (map_push timelock_of c.loop.list.items c.push.new.self.items n c.in_ok-push.ensures.items) (list_goes_on read (map timelock_of c.loop.list.items) c.args.count c.loop.counter c.loop.rest.now (timelock_of n) c.in_ok-next.after.now (list_at read c.args.count c.args.bytes.now) c.loop-test.true c.in_ok-next.ensures.exact c.loop.invariant)

pub list-returns-clause-exact : goal.list-returns-clause-exact
list-returns-clause-exact t c =
    let read = script_at c.args.depth in
    list_done read (map timelock_of c.loop.list.items) c.args.count c.loop.counter c.loop.rest.now (list_at read c.args.count c.args.bytes.now) c.loop-test.false c.loop.invariant

pub timelock-returns-clause-exact : goal.timelock-returns-clause-exact
timelock-returns-clause-exact t c =
    let h : head_at 4 c.args.bytes.now ≡ Some (c.in_ok-count.count, c.in_ok-count.rest.now) = search rules in
    let k : head_at 0 c.in_ok-count.rest.now ≡ Some (c.in_ok-kind.kind, c.in_ok-kind.rest.now) = search rules in
    let n : c.in_ok-count.count ≡ members_of_kind c.in_ok-kind.kind = search rules in
    rw (script_opened c.args.depth c.args.bytes.now c.in_ok-count.count c.in_ok-count.rest.now c.in_ok-kind.kind c.in_ok-kind.rest.now c.if-depth-eq0.false h k n) c.of_kind.ensures.exact

pub timelock-returns-clause-want : goal.timelock-returns-clause-want
timelock-returns-clause-want t c =
    let h : head_at 4 c.args.bytes.now ≡ Some (c.in_ok-count.count, c.in_ok-count.rest.now) = search rules in
    let k : head_at 0 c.in_ok-count.rest.now ≡ Some (c.in_ok-kind.kind, c.in_ok-kind.rest.now) = search rules in
    let n : c.in_ok-count.count ≡ members_of_kind c.in_ok-kind.kind = search rules in
    rw (script_opened c.args.depth c.args.bytes.now c.in_ok-count.count c.in_ok-count.rest.now c.in_ok-kind.kind c.in_ok-kind.rest.now c.if-depth-eq0.false h k n) c.of_kind.ensures.want

pub timelock-returns-clause-begins : goal.timelock-returns-clause-begins
timelock-returns-clause-begins t c =
    let h : head_at 4 c.args.bytes.now ≡ Some (c.in_ok-count.count, c.in_ok-count.rest.now) = search rules in
    let n : c.in_ok-count.count ≡ members_of_kind c.in_ok-kind.kind = search rules in
    let taken = head_takes 4 c.args.bytes.now c.in_ok-count.count c.in_ok-count.rest.now (λ i. omega (arith, c.type_inv.bytes i)) h in
    let heads = taken.0 in
    wants_anyway c.of_kind.result (BeginsLikeScript c.args.bytes.now) (script_head c.in_ok-kind.kind c.in_ok-count.count c.args.bytes.now c.in_ok-count.rest.now n heads.parts)

pub members-returns-in_err-list-clause-want : goal.members-returns-in_err-list-clause-want
members-returns-in_err-list-clause-want t c =
    let h : head_at 4 c.args.bytes.now ≡ Some (c.in_ok-count.count, c.in_ok-count.rest.now) = search rules in
    wants_anyway c.from_residual-in_err-list.result _ (some_scripts (script_at c.args.depth) c.args.bytes.now c.in_ok-count.count c.in_ok-count.rest.now h c.in_err-list.ensures.some)
