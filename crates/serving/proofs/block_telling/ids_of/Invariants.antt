-- The identifiers that were put and those of the transactions that are still to come are all.
use Rattle.std.specs.Arc.{arc_value}
use Rattle.model.specs.Transaction.{transaction_id_of}
use Rattle.serving.proofs.Gathering.{IsGathered}
use Rattle.serving.proofs.block_telling.ids_of.Given as goal

abbrev pub invariant-loop-handle : goal.invariant-loop-handle
invariant-loop-handle g l = IsGathered (λ handle. transaction_id_of (arc_value handle)) (λ id. id) l.ids.items l.handles l.handle-index
