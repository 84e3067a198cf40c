use Rattle.std.proofs.Common.{ap, ◌∙◌}
use Rattle.std.specs.FinMap as finite
use Rattle.model.specs.Transaction.{input_cmp}
use Rattle.persistent_map.proofs.ForCallers.{len_of}
use Rattle.utxo_rules.proofs.utxo.Utxo.len.Goals as goal

pub returns : goal.returns
returns c = c.len.ensures.len ∙ len_of input_cmp c.self.inside.map c.len.ensures.rise ∙ ap finite.len c.self.view_is
