use Rattle.std.proofs.Common.{List, map, ap, refl, ◌∙◌}
use Rattle.conversing.specs.declared.found.ToldOutput.{ToldOutput}
use Rattle.conversing.specs.declared.found.Found.TheVariants.{Outputs}
use Rattle.conversing.specs.declared.outcome.Outcome.TheVariants.{Answered}
use Rattle.serving.specs.UtxoTelling.{output_told}
use Rattle.serving.proofs.Telling.{replied}
use Rattle.serving.proofs.utxo_telling.tell_unspent.Goals as goal

pub returns-in-Ok : goal.returns-in-Ok
returns-in-Ok c =
    let outputs = c.deref.result in
    replied (Answered (Outputs outputs)) (outputs, refl, ap (λ (os : List ToldOutput). map output_told os) c.deref.ensures.value ∙ c.in-Ok.ensures) tt c.tell.ensures
