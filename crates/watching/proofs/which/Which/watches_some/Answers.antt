use Rattle.std.proofs.Common.{sym, ◌∙◌}
use Rattle.tx.specs.View.{output_of}
use Rattle.watching.specs.Which.{is_watched}
use Rattle.watching.proofs.Choosing.{one_passes, none_passes, any_of_map}
use Rattle.watching.proofs.which.Which.watches_some.Goals as goal

pub returns-then-watches : goal.returns-then-watches
returns-then-watches c =
    one_passes (λ o. is_watched c.args.self.now (output_of o)) c.args.outputs.now c.loop-output.output-index c.output-item.result c.loop-output-test.true c.output-item.is (sym c.if-watches.ensures) c.loop-output.invariant
    ∙ any_of_map (is_watched c.args.self.now) output_of c.args.outputs.now

pub returns : goal.returns
returns c =
    none_passes (λ o. is_watched c.args.self.now (output_of o)) c.args.outputs.now c.loop-output.output-index c.loop-output-test.false c.loop-output.invariant
    ∙ any_of_map (is_watched c.args.self.now) output_of c.args.outputs.now
