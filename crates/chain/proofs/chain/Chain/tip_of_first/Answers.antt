use Rattle.std.proofs.Common.{◌≡◌, ◌∙◌, sym, ap, Some, inl, inr, arith}
use Rattle.model.specs.Chain.{tip_at}
use Rattle.chain.specs.Chained.{chain_of, block_numbered}
use Rattle.chain.proofs.Places.{tip_of_numbered, numbered_is_within}
use Rattle.chain.proofs.chain.Chain.tip_of_first.Goals as goal

pub returns-clause-tip : goal.returns-clause-tip
returns-clause-tip g c =
    let is : block_numbered (chain_of c.args.self.now) c.args.keep ≡ Some c.in_ok-last.last.now = c.in_ok-last.ensures.block.1 in
    c.at.ensures ∙ ap tip_at c.block.ensures ∙ sym (tip_of_numbered (chain_of c.args.self.now) c.args.keep c.in_ok-last.last.now is)

pub returns-clause-none : goal.returns-clause-none
returns-clause-none g c =
    let found = c.in_ok-last.ensures.block in
    let within = numbered_is_within (chain_of c.args.self.now) c.args.keep c.in_ok-last.last.now found.1 in
    (λ e. absurd (cc), λ none. elim none.1 [ inl gone ↦ absurd (let h = found.0 in omega arith) | inr past ↦ absurd (omega arith) ])
