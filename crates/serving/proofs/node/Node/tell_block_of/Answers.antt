use Rattle.std.proofs.Common.{List, ℕ, refl, subst}
use Rattle.shared.specs.Starts.{network_from}
use Rattle.conversing.specs.declared.found.Found.TheVariants.{NoBlock}
use Rattle.conversing.specs.declared.outcome.Outcome.TheVariants.{Answered}
use Rattle.serving.specs.BlockTelling.{IsBlockOf}
use Rattle.serving.proofs.Telling.{answered, asked_so}
use Rattle.serving.proofs.node.Node.tell_block_of.Goals as goal

pub returns-in-Some-clause-ok : goal.returns-in-Some-clause-ok
returns-in-Some-clause-ok g c =
    let asked = c.in_ok-found.ensures.block in
    let found = c.in_ok-found.found in
    answered c.found_block-outcome.result asked (record {
      block = found;
      told = rw c.in-Some.is c.found_block-outcome.ensures;
      so = asked_so asked (λ s h. subst (λ (i : List ℕ). IsBlockOf (network_from g.B.Room.start g.S.SigScheme.verifies) s i found) c.from_bytes-hash.ensures h);
    }) c.tell.ensures

pub returns-clause-ok : goal.returns-clause-ok
returns-clause-ok g c =
    let asked = c.in_ok-found.ensures.block in
    let found = c.in_ok-found.found in
    answered (Answered NoBlock) asked (record {
      block = found;
      told = rw c.in-None.is refl;
      so = asked_so asked (λ s h. subst (λ (i : List ℕ). IsBlockOf (network_from g.B.Room.start g.S.SigScheme.verifies) s i found) c.from_bytes-hash.ensures h);
    }) c.tell-in-None.ensures
