use Rattle.std.proofs.Common.{sym, ap, ◌∙◌}
use Rattle.model.specs.Transaction.{input_cmp}
use Rattle.model.specs.Utxo.{Utxo, outputs_of, coin_of}
use Rattle.persistent_map.proofs.ForCallers.{entries_of}
use Rattle.utxo_rules.specs.Inside.{coin_in}
use Rattle.utxo_rules.proofs.utxo.Utxo.coin.Goals as goal

pub returns : goal.returns
returns c =
    c.self.invariant.1 ∙ ap coin_in (sym (entries_of input_cmp c.self.inside.map c.self.invariant.0))
    ∙ ap (λ (u : Utxo). coin_of (outputs_of u)) c.self.view_is
