use Rattle.std.proofs.Common.{refl, arith}
use Rattle.std.proofs.lemmas.Result.{on_ok_weaker, on_err_weaker}
use Rattle.cbor.proofs.ShapeWrites.{kept, kept_on, whatever_err}
use Rattle.cbor.proofs.ListWrites.{list_written, array_head_lacks_room, items_lack_room}
use Rattle.cbor.proofs.encoding.write_parts.Goals as goal

pub returns-clause-ok : goal.returns-clause-ok
returns-clause-ok g c = on_ok_weaker c.write_items.result (list_written g.T.Encode.item_of c.args.items.now _ c.args.out.now.items c.write_array.new.out.items c.write_items.new.out.items refl c.in_ok-write_array.ensures.ok) c.write_items.ensures.ok

pub returns-clause-keeps : goal.returns-clause-keeps
returns-clause-keeps g c = kept_on c.args.out.now.items c.write_array.new.out.items c.write_items.new.out.items (kept c.args.out.now.items _ c.write_array.new.out.items c.in_ok-write_array.ensures.ok) c.write_items.ensures.keeps

pub returns-in_err-write_array-clause-full : goal.returns-in_err-write_array-clause-full
returns-in_err-write_array-clause-full g c =
    whatever_err c.from_residual.result _ (array_head_lacks_room g.T.Encode.item_of c.args.items.now _ _ _ refl (omega (arith, c.in_err-write_array.ensures.full, c.args.out.now.ok.0)))

pub returns-clause-full : goal.returns-clause-full
returns-clause-full g c =
    on_err_weaker c.write_items.result
    (items_lack_room g.T.Encode.item_of c.args.out.now.items c.write_array.new.out.items c.args.items.now _ _ _ refl c.in_ok-write_array.ensures.ok c.in_ok-write_array.ensures.capacity)
    c.write_items.ensures.full
