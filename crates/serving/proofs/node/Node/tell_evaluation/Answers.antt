use Rattle.std.proofs.Common.{inl, inr, refl}
use Rattle.std.specs.Option.{option_map}
use Rattle.utxo_rules.specs.DetailView.{detail_of}
use Rattle.conversing.specs.declared.found.Found.TheVariants.{Unacceptable}
use Rattle.conversing.specs.declared.outcome.Outcome.TheVariants.{Answered}
use Rattle.serving.specs.Submitting.{Judged, NoneSuch}
use Rattle.serving.proofs.Telling.{looked, replied, replies_so}
use Rattle.serving.proofs.node.Node.tell_evaluation.Goals as goal

pub returns-in_ok-detail-in-Some-clause-ok : goal.returns-in_ok-detail-in-Some-clause-ok
returns-in_ok-detail-in-Some-clause-ok g c =
    let asked = c.in_ok-detail-in-Some.ensures.told in
    replies_so c.tell_detail.ensures (λ outcome told. Judged (option_map detail_of c.in_ok-detail-in-Some.detail) asked told) (λ _none. inr (looked asked))

pub returns-in-None-clause-ok : goal.returns-in-None-clause-ok
returns-in-None-clause-ok g c =
    replied (Answered (Unacceptable c.malformed.result)) (NoneSuch (rw c.in-None.is at c.in_ok-found.ensures) refl c.malformed.result refl c.malformed.ensures) (inl refl) c.tell.ensures
