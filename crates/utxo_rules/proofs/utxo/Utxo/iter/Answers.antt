use Rattle.std.proofs.Common.{sym, ap, ◌∙◌}
use Rattle.std.specs.FinMap as finite
use Rattle.model.specs.Transaction.{input_cmp}
use Rattle.model.specs.Utxo.{Utxo}
use Rattle.persistent_map.proofs.ForCallers.{entries_of}
use Rattle.utxo_rules.proofs.utxo.Utxo.iter.Goals as goal

pub returns : goal.returns
returns c = c.iter.ensures.entries ∙ sym (entries_of input_cmp c.self.inside.map c.iter.ensures.rise) ∙ ap (λ (m : Utxo). finite.entries m) c.self.view_is
