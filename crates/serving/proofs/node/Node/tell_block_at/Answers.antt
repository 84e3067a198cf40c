use Rattle.std.proofs.Common.{Some, refl, subst}
use Rattle.model.specs.Block.{Block}
use Rattle.conversing.specs.declared.found.Found.TheVariants.{NoBlock}
use Rattle.conversing.specs.declared.outcome.Outcome.TheVariants.{Answered}
use Rattle.serving.specs.BlockTelling.{IsFinding}
use Rattle.serving.proofs.Telling.{answered}
use Rattle.serving.proofs.node.Node.tell_block_at.Goals as goal

pub returns-in-Some-clause-ok : goal.returns-in-Some-clause-ok
returns-in-Some-clause-ok g c =
    let asked = c.in_ok-found.ensures.block in
    let outcome = c.found_block-outcome.result in
    answered outcome asked (record {
      block = c.in_ok-found.found;
      told = rw c.in-Some.is (subst (λ (b : Block). IsFinding (Some b) outcome) c.block-in-Some.ensures c.found_block-outcome.ensures);
      so = asked;
    }) c.tell.ensures

pub returns-clause-ok : goal.returns-clause-ok
returns-clause-ok g c =
    let asked = c.in_ok-found.ensures.block in
    answered (Answered NoBlock) asked (record { block = c.in_ok-found.found; told = rw c.in-None.is refl; so = asked }) c.tell-in-None.ensures
