use Rattle.std.proofs.Common.{rules}
use Rattle.std.specs.Ordering.{is_lt}
use Rattle.std.proofs.lemmas.List.Sorted.{answers_always}
use Rattle.model.specs.Transaction.{input_cmp}
use Rattle.tx.specs.View.{input_of}
use Rattle.tx.proofs.Rising.{rises_is}
use Rattle.tx.proofs.lists.inputs_rise.Goals as goal

pub returns : goal.returns
returns c =
    rises_is input_cmp input_of c.args.inputs.now c.is_sorted_by.result
    (c.is_sorted_by.ensures.cases (λ a b. is_lt (input_cmp (input_of a) (input_of b))) (answers_always _ _ _ (λ f a r g called. search rules)))
