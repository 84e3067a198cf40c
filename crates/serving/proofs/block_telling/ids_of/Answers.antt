use Rattle.std.proofs.Common.{sym, ◌∙◌}
use Rattle.std.specs.Arc.{arc_value}
use Rattle.model.specs.Transaction.{transaction_id_of}
use Rattle.serving.proofs.Gathering.{none_gathered, one_gathered, all_gathered, map_self}
use Rattle.serving.proofs.block_telling.ids_of.Goals as goal

pub loop-handle-init : goal.loop-handle-init
loop-handle-init g c = none_gathered (λ handle. transaction_id_of (arc_value handle)) (λ id. id) c.in_ok-ids.ids.items c.args.handles.now c.in_ok-ids.ensures.items

pub loop-handle-preserved : goal.loop-handle-preserved
loop-handle-preserved g c =
    one_gathered (λ handle. transaction_id_of (arc_value handle)) (λ id. id) c.loop-handle.ids.items c.push.new.self.items c.args.handles.now c.loop-handle.handle-index c.handle-item.result c.id_of.result
    c.loop-handle-test.true c.handle-item.is c.id_of.ensures c.in_ok-push.ensures.items c.loop-handle.invariant

pub returns : goal.returns
returns g c =
    sym (map_self c.loop-handle.ids.items)
    ∙ all_gathered (λ handle. transaction_id_of (arc_value handle)) (λ id. id) c.loop-handle.ids.items c.args.handles.now c.loop-handle.handle-index c.loop-handle-test.false c.loop-handle.invariant
