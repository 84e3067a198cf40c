use Rattle.std.proofs.Common.{List, ℕ, refl, subst, sym}
use Rattle.model.specs.Asked.{IsTxPlaceOf}
use Rattle.shared.specs.Starts.{network_from}
use Rattle.conversing.specs.declared.found.Found.TheVariants.{Transaction}
use Rattle.conversing.specs.declared.outcome.Outcome.TheVariants.{Answered}
use Rattle.serving.specs.BlockTelling.{place_told}
use Rattle.serving.proofs.Telling.{answered, asked_so}
use Rattle.serving.proofs.node.Node.tell_standing.Goals as goal

pub returns : goal.returns
returns g c =
    let asked = c.transaction-place.ensures in
    let standing = c.standing_of-standing.result in
    let network = network_from g.B.Room.start g.S.SigScheme.verifies in
    answered (Answered (Transaction standing)) asked (record {
      standing = standing;
      told = refl;
      so = asked_so asked (λ s h. subst (λ (i : List ℕ). IsTxPlaceOf network s i (place_told standing)) c.from_bytes-id.ensures
          (subst (IsTxPlaceOf network s c.from_bytes-id.result.bytes) (sym c.standing_of-standing.ensures) h));
    }) c.tell.ensures
