use Rattle.std.proofs.Common.{Some, option_map, ap, ◌∙◌}
use Rattle.std.specs.Option.{option_copied}
use Rattle.std.specs.FinMap as finite
use Rattle.model.specs.Transaction.{Input, input_cmp}
use Rattle.model.specs.Utxo.{Utxo}
use Rattle.tx.specs.View.{output_of}
use Rattle.persistent_map.proofs.ForCallers.{get_of}
use Rattle.utxo_rules.proofs.utxo.Utxo.get.Goals as goal

pub returns-in_err-unspent : goal.returns-in_err-unspent
returns-in_err-unspent c =
    ap (λ r. option_map output_of (option_copied r)) c.from_residual.ensures ∙ c.in_err-unspent.ensures.value ∙ get_of input_cmp c.self.inside.map c.of.result c.get.ensures.rise
    ∙ ap (λ (m : Utxo). finite.get m c.of.result) c.self.view_is ∙ ap (λ (i : Input). finite.get c.args.self.now i) c.of.ensures

pub returns : goal.returns
returns c =
    ap Some c.output.ensures ∙ c.in_ok-unspent.ensures.value ∙ get_of input_cmp c.self.inside.map c.of.result c.get.ensures.rise
    ∙ ap (λ (m : Utxo). finite.get m c.of.result) c.self.view_is ∙ ap (λ (i : Input). finite.get c.args.self.now i) c.of.ensures
