use Rattle.std.proofs.Common.{List, ℕ, refl, subst}
use Rattle.model.specs.Asked.{IsWhyOf}
use Rattle.chain_core.specs.Ways.{why_of}
use Rattle.shared.specs.Starts.{network_from}
use Rattle.conversing.specs.declared.found.Found.TheVariants.{Why}
use Rattle.conversing.specs.declared.outcome.Outcome.TheVariants.{Answered}
use Rattle.serving.proofs.Telling.{answered, asked_so}
use Rattle.serving.proofs.node.Node.tell_why.Goals as goal

pub returns-clause-ok : goal.returns-clause-ok
returns-clause-ok g c =
    let asked = c.in_ok-why.ensures.why in
    let cause = c.cause_of-cause.result in
    let why = why_of c.in_ok-why.why in
    answered (Answered (Why cause)) asked (record {
      why = why;
      cause = cause;
      told = refl;
      words = c.cause_of-cause.ensures;
      so = asked_so asked (λ s h. subst (λ (i : List ℕ). IsWhyOf (network_from g.B.Room.start g.S.SigScheme.verifies) s i why) c.from_bytes-hash.ensures h);
    }) c.tell.ensures
