use Rattle.std.proofs.Common.{◌≡◌, ◌++◌, length, ap, sym, ◌∙◌, arith, refl}
use Rattle.std.specs.Prelude.{vec_capacity}
use Rattle.std.proofs.lemmas.Result.{on_ok_weaker, on_err_weaker}
use Rattle.model.specs.Cbor.{Items, Array, items_text, text_of}
use Rattle.cbor.proofs.ForCallers.{kept, kept_on, whatever_err, all_items_written, list_written, item_lacks_room, array_head_lacks_room, items_lack_room}
use Rattle.model.specs.Script.{items_of_scripts}
use Rattle.timelock.specs.View.{timelocks_of}
use Rattle.timelock.proofs.Members.{member_depth, item_of_timelock, items_are}
use Rattle.timelock.proofs.writing.+writing.Goals as goal

pub write_list-write_timelock-requires : goal.write_list-write_timelock-requires
write_list-write_timelock-requires t c =
    let n = member_depth c.args.list.now c.loop-timelock.timelock-index c.timelock-item.result c.loop-timelock-test.true c.timelock-item.is in
    (omega (arith, n, c.decreases), tt)

pub write_list-returns-in_err-write_timelock-clause-full : goal.write_list-returns-in_err-write_timelock-clause-full
write_list-returns-in_err-write_timelock-clause-full t c =
    let ts = c.args.list.now in
    let lacks = item_lacks_room item_of_timelock c.args.out.now.items c.loop-timelock.out.items ts c.loop-timelock.timelock-index c.timelock-item.result (vec_capacity c.args.out.now) (vec_capacity c.loop-timelock.out) c.loop-timelock-test.true c.timelock-item.is c.loop-timelock.invariant.0 c.loop-timelock.invariant.1 c.in_err-write_timelock.ensures.full in
    whatever_err c.from_residual.result _ (rw (items_are ts) lacks)

pub write_list-returns-clause-ok : goal.write_list-returns-clause-ok
write_list-returns-clause-ok t c =
    let ts = c.args.list.now in
    all_items_written item_of_timelock c.args.out.now.items c.loop-timelock.out.items ts c.loop-timelock.timelock-index c.loop-timelock-test.false c.loop-timelock.invariant.0 ∙ ap (λ (is : Items). c.args.out.now.items ++ items_text is) (sym (items_are ts))

pub write_members-returns-in_err-write_array-clause-full : goal.write_members-returns-in_err-write_array-clause-full
write_members-returns-in_err-write_array-clause-full t c =
    let ts = c.args.members.now in
    let lacks = array_head_lacks_room item_of_timelock ts (length ts) (vec_capacity c.args.out.now) (length c.args.out.now.items) refl (omega (arith, c.in_err-write_array.ensures.full, c.args.out.now.ok.0)) in
    whatever_err c.from_residual.result _ (rw (items_are ts) lacks)

pub write_members-returns-clause-ok : goal.write_members-returns-clause-ok
write_members-returns-clause-ok t c =
    let ts = c.args.members.now in
    let whole : c.write_list.new.out.items ≡ c.write_array.new.out.items ++ items_text (items_of_scripts (timelocks_of ts)) → c.write_list.new.out.items ≡ c.args.out.now.items ++ text_of (Array (items_of_scripts (timelocks_of ts))) =
    λ e.
    list_written item_of_timelock ts (length ts) c.args.out.now.items c.write_array.new.out.items c.write_list.new.out.items refl c.in_ok-write_array.ensures.ok (e ∙ ap (λ (is : Items). c.write_array.new.out.items ++ items_text is) (items_are ts))
    ∙ ap (λ (is : Items). c.args.out.now.items ++ text_of (Array is)) (sym (items_are ts)) in
    on_ok_weaker c.write_list.result whole c.write_list.ensures.ok

pub write_members-returns-clause-keeps : goal.write_members-returns-clause-keeps
write_members-returns-clause-keeps t c = kept_on c.args.out.now.items c.write_array.new.out.items c.write_list.new.out.items (kept c.args.out.now.items _ c.write_array.new.out.items c.in_ok-write_array.ensures.ok) c.write_list.ensures.keeps

pub write_members-returns-clause-full : goal.write_members-returns-clause-full
write_members-returns-clause-full t c =
    let ts = c.args.members.now in
    on_err_weaker c.write_list.result
    (λ lacks. rw (items_are ts) (items_lack_room item_of_timelock c.args.out.now.items c.write_array.new.out.items ts (length ts) (vec_capacity c.args.out.now) (vec_capacity c.write_array.new.out) refl c.in_ok-write_array.ensures.ok c.in_ok-write_array.ensures.capacity (omega (arith, lacks, ap (λ (is : Items). length (items_text is)) (items_are ts)))))
    c.write_list.ensures.full
