use Rattle.std.proofs.Common.{◌+◌, max, map, ap, ◌∙◌}
use Rattle.model.specs.Cbor.{items_nesting, items_of}
use Rattle.model.specs.Transaction.{item_of_input, item_of_output}
use Rattle.tx.specs.BodyView.{body_of}
use Rattle.tx.specs.View.{input_of, output_of}
use Rattle.tx.proofs.Depths.{body_nests}
use Rattle.tx.proofs.body.Body.nesting.Goals as goal

pub returns-clause-deep : goal.returns-clause-deep
returns-clause-deep c =
    let inputs = c.inputs_nesting.ensures.deep ∙ ap (λ is. items_nesting (items_of (map item_of_input (map input_of is)))) c.deref.ensures.value in
    let outputs = c.outputs_nesting.ensures.deep ∙ ap (λ os. items_nesting (items_of (map item_of_output (map output_of os)))) c.deref-2.ensures.value in
    ap (λ n. 1 + n) (c.max.ensures ∙ ap (λ n. max c.nesting-mint.result (1 + n)) c.max-items.ensures)
    ∙ body_nests (body_of c.args.self.now) c.inputs_nesting.result c.outputs_nesting.result c.nesting-mint.result inputs outputs c.nesting-mint.ensures.deep
