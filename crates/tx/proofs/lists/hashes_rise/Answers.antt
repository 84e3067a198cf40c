use Rattle.std.proofs.Common.{rules, ◌∙◌, ap}
use Rattle.std.specs.Ordering.{is_lt}
use Rattle.std.proofs.lemmas.List.Sorted.{answers_always}
use Rattle.model.specs.Transaction.{script_cmp}
use Rattle.tx.specs.Rising.{rises_by}
use Rattle.tx.proofs.Rising.{rises_is, same_list}
use Rattle.tx.proofs.lists.hashes_rise.Goals as goal

pub returns : goal.returns
returns c =
    rises_is script_cmp (λ s. s) c.args.scripts.now c.is_sorted_by.result
    (c.is_sorted_by.ensures.cases (λ a b. is_lt (script_cmp a b)) (answers_always _ _ _ (λ f a r g called. search rules)))
    ∙ ap (rises_by script_cmp) (same_list c.args.scripts.now)
