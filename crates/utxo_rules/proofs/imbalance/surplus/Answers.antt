use Rattle.std.proofs.Common.{◌≡◌, ℕ, [], ap, ◌∙◌, arith}
use Rattle.std.proofs.lemmas.Int.{ints}
use Rattle.model.specs.Value.{Value, amount_of}
use Rattle.model.specs.Utxo.{sum_of}
use Rattle.model.specs.Balance.{amount_of_fee}
use Rattle.utxo_rules.proofs.Balancing.{fee_amount}
use Rattle.utxo_rules.proofs.imbalance.surplus.Goals as goal

pub returns : goal.returns
returns c = λ asset.
    let t = c.args.tx.now in
    let of_coin = c.of_coin.ensures ∙ ap (λ (n : ℕ). let v : Value = record { coin = n; assets = [] } in v) c.fee.ensures in
    let fee : amount_of asset c.of_coin.result ≡ amount_of_fee asset t.fee = ap (amount_of asset) of_coin ∙ fee_amount asset t.fee in
    let paid = ap (sum_of asset) c.outputs.ensures in
    let one = c.in_ok-totals.ensures.sums asset in
    let two = c.in_ok-take_outputs.ensures.sums asset in
    let three = c.in_ok-take_from.ensures.sums asset in
    omega (arith, ints, one, two, three, fee, paid)
