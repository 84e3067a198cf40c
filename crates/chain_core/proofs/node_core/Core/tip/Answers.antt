use Rattle.std.proofs.Common.{ℕ, length, take, sym, ap, ◌∙◌, arith}
use Rattle.std.proofs.lemmas.List.{take_all}
use Rattle.model.specs.Chain.{tip_point}
use Rattle.chain.specs.Chained.{chain_of}
use Rattle.chain_core.specs.Held.{Held}
use Rattle.chain_core.specs.Inside.{held}
use Rattle.chain_core.proofs.Reached.{theorem_reached}
use Rattle.chain_core.proofs.node_core.Core.tip.Goals as goal

pub returns-clause-theorem : goal.returns-clause-theorem
returns-clause-theorem g c = theorem_reached g.S.SigScheme.verifies (held c.self.inside) c.args.self.now c.self.view_is c.self.invariant.opens c.self.invariant.reached

pub returns-clause-tip : goal.returns-clause-tip
returns-clause-tip g c =
    let chain = chain_of c.self.inside.chain_db.chain in
    c.point_at.ensures ∙ (ap (λ (n : ℕ). tip_point (take n chain)) (c.height.ensures ∙ ap (λ (h : Held). length h.chain) (sym c.self.view_is)) ∙ (ap tip_point (take_all (length chain) chain (omega arith)) ∙ ap (λ (h : Held). tip_point h.chain) c.self.view_is))
