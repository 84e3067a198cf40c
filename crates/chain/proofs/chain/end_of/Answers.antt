use Rattle.std.proofs.Common.{◌∙◌, sym, ap}
use Rattle.model.specs.Chain.{genesis_tip, tip_at}
use Rattle.chain.proofs.Places.{tip_of_last}
use Rattle.chain.proofs.chain.end_of.Goals as goal

pub returns-in-Some : goal.returns-in-Some
returns-in-Some g c = c.at.ensures ∙ (ap tip_at c.block.ensures ∙ sym (tip_of_last genesis_tip c.args.blocks.now c.in-Some.last.now (sym c.in-Some.ensures.value)))
