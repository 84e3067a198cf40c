use Rattle.std.proofs.Common.{◌≡◌, refl, ◌∙◌, arith, to_z, of_z}
use Rattle.std.proofs.lemmas.Int.{ints}
use Rattle.value.specs.Totals.{total_of}
use Rattle.utxo_rules.specs.DetailView.{asset_of}
use Rattle.utxo_rules.proofs.Unbalanced.{first_unbalanced, nothing_left}
use Rattle.utxo_rules.proofs.imbalance.imbalance.Goals as goal
use mir.Syntax.{w128}

pub returns-then-is_balanced : goal.returns-then-is_balanced
returns-then-is_balanced c = λ verifies params slot.
    nothing_left c.args.utxo.now c.args.tx.now (total_of c.in_ok-surplus.surplus) c.in_ok-surplus.ensures (c.is_balanced.ensures.0 c.if-is_balanced.true)

pub returns : goal.returns
returns c = λ verifies params slot.
    let asset = asset_of c.in_ok-asset.asset in
    let sum_in : to_z w128 (of_z w128 c.amount-sum_in.result) ≡ c.amount-sum_in.result = omega (arith, ints, c.amount-sum_in.type_inv) in
    let sum_out : to_z w128 (of_z w128 c.amount-sum_out.result) ≡ c.amount-sum_out.result = omega (arith, ints, c.amount-sum_out.type_inv) in (
      refl,
      (
        first_unbalanced c.args.utxo.now c.args.tx.now (total_of c.in_ok-surplus.surplus) c.in_ok-surplus.ensures asset c.in_ok-asset.ensures,
        sum_in ∙ c.amount-sum_in.ensures ∙ c.in_ok-consumed.ensures.sums asset,
        sum_out ∙ c.amount-sum_out.ensures ∙ c.in_ok-produced.ensures asset,
      ),
    )
