use Rattle.std.proofs.Common.{sym, ◌∙◌}
use Rattle.std.specs.FinMap as finite
use Rattle.value.specs.Totals.{total_of}
use Rattle.watching.proofs.Summed.{all_summed}
use Rattle.watching.proofs.balance.balance.Goals as goal

pub returns-clause-counted : goal.returns-clause-counted
returns-clause-counted c =
    (all_summed (finite.entries c.args.outputs.now) (total_of c.loop-output.totals) c.loop-output.totals.values c.loop-output.output-iterator c.in-None.ensures.steps.0 c.loop-output.invariant).1
    ∙ sym (finite.len-entries c.args.outputs.now)
