-- The order of inputs is one.
use Rattle.std.specs.Cmp.{IsTotalOrder}
use Rattle.std.proofs.lemmas.Cmp.{nat_cmp_total, nat_list_cmp_total, on_total, then_total}
use Rattle.model.specs.Transaction.{Input, input_cmp}

pub inputs_total : IsTotalOrder input_cmp
inputs_total =
    then_total (on_total (λ (i : Input). i.transaction) nat_list_cmp_total)
    (on_total (λ (i : Input). i.index) nat_cmp_total)
