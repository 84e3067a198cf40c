use Rattle.std.proofs.Common.{arith}
use Rattle.cbor.proofs.ShapeWrites.{kept_on, kept_same, whatever_err}
use Rattle.cbor.proofs.ListWrites.{no_item_written, one_item_written, all_items_written, item_lacks_room}
use Rattle.cbor.proofs.encoding.write_items.Goals as goal

pub returns-clause-ok : goal.returns-clause-ok
returns-clause-ok g c = all_items_written g.T.Encode.item_of c.args.out.now.items c.loop-item.out.items c.args.items.now c.loop-item.item-index c.loop-item-test.false c.loop-item.invariant.0

pub loop-item-init : goal.loop-item-init
loop-item-init g c = (no_item_written g.T.Encode.item_of c.args.out.now.items c.args.items.now, omega arith)

pub loop-item-preserved : goal.loop-item-preserved
loop-item-preserved g c = (
  one_item_written g.T.Encode.item_of c.args.out.now.items c.loop-item.out.items c.write.new.out.items c.args.items.now c.loop-item.item-index c.item-item.result c.loop-item-test.true c.item-item.is c.in_ok-write.ensures.ok c.loop-item.invariant.0,
  omega (arith, c.loop-item.invariant.1, c.in_ok-write.ensures.capacity),
)

pub returns-in_err-write-clause-keeps : goal.returns-in_err-write-clause-keeps
returns-in_err-write-clause-keeps g c = kept_on c.args.out.now.items c.loop-item.out.items c.write.new.out.items c.loop-item.invariant.0.keeps (kept_same c.loop-item.out.items c.write.new.out.items c.in_err-write.ensures.err)

pub returns-in_err-write-clause-full : goal.returns-in_err-write-clause-full
returns-in_err-write-clause-full g c =
    whatever_err c.from_residual.result _ (item_lacks_room g.T.Encode.item_of c.args.out.now.items c.loop-item.out.items c.args.items.now c.loop-item.item-index c.item-item.result _ _ c.loop-item-test.true c.item-item.is c.loop-item.invariant.0 c.loop-item.invariant.1 (omega (arith, c.in_err-write.ensures.full, c.loop-item.out.ok.0)))
