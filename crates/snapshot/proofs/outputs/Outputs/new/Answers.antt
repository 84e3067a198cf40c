use Rattle.std.proofs.Common.{ap, ◌∙◌}
use Rattle.std.specs.FinMap as finite
use Rattle.snapshot.proofs.RisingLemmas.{none_in}
use Rattle.snapshot.proofs.outputs.Outputs.new.Goals as goal

pub invariant_of-result : goal.invariant_of-result
invariant_of-result c = ap finite.entries c.new.ensures ∙ none_in

pub returns : goal.returns
returns c = ap finite.entries c.new.ensures ∙ none_in
