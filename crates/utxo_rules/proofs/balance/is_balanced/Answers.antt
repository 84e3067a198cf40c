use Rattle.std.proofs.Common.{map, ap, ◌∙◌, ℕ, []}
use Rattle.model.specs.Value.{Value}
use Rattle.tx.specs.View.{output_of}
use Rattle.value.specs.Totals.{total_of}
use Rattle.utxo_rules.proofs.Balancing.{balance_told}
use Rattle.utxo_rules.proofs.balance.is_balanced.Goals as goal

pub returns : goal.returns
returns c = λ utxo spends.
    let fee = c.of_coin.ensures ∙ ap (λ (n : ℕ). let v : Value = record { coin = n; assets = [] } in v) c.fee.ensures in
    balance_told utxo c.args.tx.now c.is_balanced.result (total_of c.args.spent) (total_of c.add_to.new.totals) (total_of c.take_outputs.new.totals) (total_of c.take_from-2.new.totals)
    c.mint.result.now (map output_of c.outputs.result.now) c.of_coin.result spends c.mint.ensures c.outputs.ensures fee
    c.in_ok-add_to.ensures.sums c.in_ok-take_outputs.ensures.sums c.in_ok-take_from.ensures.sums c.is_balanced.ensures
