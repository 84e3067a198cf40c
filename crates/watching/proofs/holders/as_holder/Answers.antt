use Rattle.std.proofs.Common.{rules, List, map, sym, ap, ◌∙◌}
use Rattle.model.specs.Value.{Named}
use Rattle.model.specs.Transaction.{Input, Output}
use Rattle.model.specs.Utxo.{outputs_of}
use Rattle.tx.specs.View.{output_of}
use Rattle.watching.proofs.Holding.{amount_is, told_none, told_some}
use Rattle.watching.proofs.holders.as_holder.Goals as goal

pub returns-then-amount-eq0 : goal.returns-then-amount-eq0
returns-then-amount-eq0 c =
    let asset = Named c.args.policy.now.bytes c.args.name.now in
    let sum = c.amount.ensures ∙ c.in_ok-balance.ensures.sums asset in
    told_none asset (outputs_of c.args.outputs.now)
    (sym (amount_is c.amount.result _ c.unsigned_abs-amount.result (search rules) c.unsigned_abs-amount.ensures.value sum) ∙ c.if-amount-eq0.true)

pub returns-else-amount-eq0 : goal.returns-else-amount-eq0
returns-else-amount-eq0 c =
    let asset = Named c.args.policy.now.bytes c.args.name.now in
    let sum = c.amount.ensures ∙ c.in_ok-balance.ensures.sums asset in
    told_some asset (output_of c.in-Some.output.now) (map (λ p. p.1) c.next.new.self) (outputs_of c.args.outputs.now) c.unsigned_abs-amount.result
    (ap (λ (ps : List (Input × Output)). map (λ p. p.1) ps) (sym c.iter.ensures ∙ c.in-Some.ensures.steps))
    (amount_is c.amount.result _ c.unsigned_abs-amount.result (search rules) c.unsigned_abs-amount.ensures.value sum) c.if-amount-eq0.false
