use Rattle.std.proofs.Common.{◌∙◌}
use Rattle.watching.proofs.Gathering.{none_chosen}
use Rattle.watching.proofs.index.Index.of_watched.Goals as goal

pub loop-input-init : goal.loop-input-init
loop-input-init c =
    none_chosen c.args.which.now c.args.outputs.now c.new-index.result c.into_iter-input-iterator.result c.new-index.ensures (c.into_iter-input-iterator.ensures.into_iter_gives ∙ c.iter-input-items.ensures)
