use Rattle.std.proofs.Common.{map}
use Rattle.std.proofs.lemmas.Result.{err_from_is_err_and}
use Rattle.cbor.specs.Shapes.{list_at}
use Rattle.cbor.proofs.ListLoops.{map_push, list_goes_on, list_ends, list_done}
use Rattle.cbor.proofs.shapes.list.Goals as goal

pub returns-in_err-next-clause-exact : goal.returns-in_err-next-clause-exact
returns-in_err-next-clause-exact g c =
    let read = g.T.Decode.decoded_at c.args.depth in
    let p = err_from_is_err_and c.from_residual.result c.from_residual.ensures.1 in
    rw (p.1, p.2) (list_ends read c.in_err-next.field-0.0 (map g.T.Decode.plain c.loop.list.items) c.args.count c.loop.counter c.loop.rest.now (list_at read c.args.count c.args.bytes.now) c.loop-test.true c.in_err-next.ensures c.loop.invariant)

pub loop-preserved : goal.loop-preserved
loop-preserved g c =
    let read = g.T.Decode.decoded_at c.args.depth in
    let plain = g.T.Decode.plain in
    let n = c.in_ok-next.next in
    rw (map_push plain c.loop.list.items c.push.new.self.items n c.in_ok-push.ensures.items) (list_goes_on read (map plain c.loop.list.items) c.args.count c.loop.counter c.loop.rest.now (plain n) c.in_ok-next.after.now (list_at read c.args.count c.args.bytes.now) c.loop-test.true c.in_ok-next.ensures c.loop.invariant)

pub returns-clause-exact : goal.returns-clause-exact
returns-clause-exact g c =
    let read = g.T.Decode.decoded_at c.args.depth in
    list_done read (map g.T.Decode.plain c.loop.list.items) c.args.count c.loop.counter c.loop.rest.now (list_at read c.args.count c.args.bytes.now) c.loop-test.false c.loop.invariant
