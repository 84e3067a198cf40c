use Rattle.std.proofs.Common.{◌∙◌}
use Rattle.tx.specs.View.{input_of, output_of}
use Rattle.watching.proofs.Gathering.{none_gathered, one_gathered}
use Rattle.watching.proofs.index.Index.of_all.Goals as goal

pub loop-input-init : goal.loop-input-init
loop-input-init c =
    none_gathered c.args.outputs.now c.new-owners.result c.into_iter-input-iterator.result c.new-owners.ensures (c.into_iter-input-iterator.ensures.into_iter_gives ∙ c.iter-input-items.ensures)

pub loop-input-preserved : goal.loop-input-preserved
loop-input-preserved c =
    one_gathered c.args.outputs.now c.loop-input.owners c.add.new.self c.loop-input.input-iterator c.next.new.self (input_of c.in-Some.input) (output_of c.in-Some.output.now) c.in-Some.ensures.steps c.in_ok-add.ensures c.loop-input.invariant
