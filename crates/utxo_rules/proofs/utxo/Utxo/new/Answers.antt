use Rattle.std.proofs.Common.{ap, ◌∙◌}
use Rattle.std.specs.FinMap as finite
use Rattle.model.specs.Transaction.{input_cmp}
use Rattle.persistent_map.proofs.ForCallers.{empty_of}
use Rattle.utxo_rules.proofs.utxo.Utxo.new.Goals as goal

pub returns : goal.returns
returns c = ap (finite.from_sorted {R = input_cmp}) c.new.ensures.empty ∙ empty_of input_cmp
