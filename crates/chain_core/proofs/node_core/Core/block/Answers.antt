use Rattle.std.proofs.Common.{ap, ◌∙◌}
use Rattle.chain.specs.Chained.{block_numbered}
use Rattle.chain_core.specs.Held.{Held}
use Rattle.chain_core.proofs.InMemory.{numbered_all, none_of}
use Rattle.chain_core.proofs.node_core.Core.block.Goals as goal

pub returns : goal.returns
returns g c =
    numbered_all c.self.inside.chain_db.chain c.args.number _ c.self.invariant.whole.gone c.get.ensures.there (λ le. none_of (λ b. b.now) c.get.result (c.get.ensures.gone le))
    ∙ ap (λ (h : Held). block_numbered h.chain c.args.number) c.self.view_is
