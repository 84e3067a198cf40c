use Rattle.std.proofs.Common.{◌∙◌, ap, ◌++◌, map}
use Rattle.std.specs.Arc.{arc_value}
use Rattle.model.specs.Transaction.{transaction_id_of}
use Rattle.script.specs.Names.{printed_tx}
use Rattle.scenario.proofs.SubmissionLines.{none_printed, one_printed, all_printed}
use Rattle.scenario.proofs.print.print_waiting.Goals as goal

pub loop-tx-init : goal.loop-tx-init
loop-tx-init g c = none_printed c.args.names.now c.args.line.now.items c.args.mempool.now.waiting.txs c.into_iter-tx-iterator.result (ap (map arc_value) c.into_iter-tx-iterator.ensures.into_iter_gives ∙ c.iter-tx-items.ensures)

pub loop-tx-preserved : goal.loop-tx-preserved
loop-tx-preserved g c =
    one_printed c.args.names.now c.args.line.now.items c.loop-tx.line.items c.printed_tx.result.now c.extend_from_slice.new.self.items c.args.mempool.now.waiting.txs c.in-Some.tx.now c.next.new.self c.loop-tx.tx-iterator c.in-Some.ensures.steps c.loop-tx.invariant
    (λ all named. c.printed_tx.ensures all named ∙ ap (λ bs. printed_tx bs all.of_txs) (c.id.ensures.is ∙ ap transaction_id_of (c.tx.ensures ∙ c.deref.ensures)))
    (c.in_ok-extend_from_slice.ensures.items ∙ ap (λ bs. bs ++ c.printed_tx.result.now) c.in_ok-push.ensures.items)

pub returns : goal.returns
returns g c = all_printed c.args.names.now c.args.line.now.items c.loop-tx.line.items c.args.mempool.now.waiting.txs c.loop-tx.tx-iterator c.in-None.ensures.steps.0 c.loop-tx.invariant
