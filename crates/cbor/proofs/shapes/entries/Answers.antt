use Rattle.std.proofs.Common.{[], map}
use Rattle.std.proofs.lemmas.Result.{err_from_is_err_and}
use Rattle.cbor.specs.Shapes.{entries_at}
use Rattle.cbor.proofs.ListLoops.{map_push, entries_go_on, entries_end, entries_done}
use Rattle.cbor.proofs.shapes.entries.Goals as goal

pub returns-in_err-next-clause-exact : goal.returns-in_err-next-clause-exact
returns-in_err-next-clause-exact g c =
    let read = g.E.DecodeEntry.decoded_at in
    let p = err_from_is_err_and c.from_residual.result c.from_residual.ensures.1 in
    rw (p.1, p.2) (entries_end read c.in_err-next.field-0.0 (map g.E.DecodeEntry.plain c.loop.entries.items) c.loop.before.now c.args.count c.loop.counter c.loop.rest.now (entries_at read [] c.args.count c.args.bytes.now) c.loop-test.true c.in_err-next.ensures c.loop.invariant)

pub loop-preserved : goal.loop-preserved
loop-preserved g c =
    let read = g.E.DecodeEntry.decoded_at in
    let plain = g.E.DecodeEntry.plain in
    let n = c.in_ok-next.next in
    rw (map_push plain c.loop.entries.items c.push.new.self.items n c.in_ok-push.ensures.items) (entries_go_on read (map plain c.loop.entries.items) c.loop.before.now c.args.count c.loop.counter c.loop.rest.now (plain n) c.in_ok-next.text.now c.in_ok-next.after.now (entries_at read [] c.args.count c.args.bytes.now) c.loop-test.true c.in_ok-next.ensures c.loop.invariant)

pub returns-clause-exact : goal.returns-clause-exact
returns-clause-exact g c =
    let read = g.E.DecodeEntry.decoded_at in
    entries_done read (map g.E.DecodeEntry.plain c.loop.entries.items) c.loop.before.now c.args.count c.loop.counter c.loop.rest.now (entries_at read [] c.args.count c.args.bytes.now) c.loop-test.false c.loop.invariant
