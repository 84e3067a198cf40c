use Rattle.std.proofs.Common.{sym, ap, subst, ◌∙◌}
use Rattle.block.specs.Facts.{block_in, AreFactsIn}
use Rattle.block.proofs.Kept.{facts_in, block_is_in}
use Rattle.block.proofs.block_ref.BlockRef.into_block.Goals as goal

pub of_parts-requires : goal.of_parts-requires
of_parts-requires c =
    subst (AreFactsIn c.self.inside.facts) (sym c.in_ok-bytes.ensures.items) (facts_in c.self.inside.facts c.self.inside.transactions.items c.self.inside.bytes.now c.self.invariant)

pub returns : goal.returns
returns c =
    c.in_ok-of_parts.ensures.block
    ∙ (ap (block_in c.self.inside.facts) c.in_ok-bytes.ensures.items
    ∙ (block_is_in c.self.inside.facts c.self.inside.transactions.items c.self.inside.bytes.now c.self.invariant ∙ c.self.view_is))
