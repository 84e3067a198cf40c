use Rattle.std.proofs.Common.{◌-◌, List, drop, ap, ◌∙◌}
use Rattle.model.specs.Block.{Block}
use Rattle.chain_core.specs.Held.{Held}
use Rattle.chain_core.proofs.node_core.Core.blocks.Goals as goal

pub returns : goal.returns
returns g c = c.blocks_from.ensures ∙ (ap (λ (bs : List Block). drop (c.args.from - 1) bs) (c.in_memory.ensures.all c.self.invariant.whole.gone) ∙ ap (λ (h : Held). drop (c.args.from - 1) h.chain) c.self.view_is)
