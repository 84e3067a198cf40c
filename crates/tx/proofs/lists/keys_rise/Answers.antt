use Rattle.std.proofs.Common.{rules}
use Rattle.std.specs.Ordering.{is_lt}
use Rattle.std.proofs.lemmas.List.Sorted.{answers_always}
use Rattle.model.specs.Transaction.{witness_cmp}
use Rattle.tx.specs.View.{witness_of}
use Rattle.tx.proofs.Rising.{rises_is}
use Rattle.tx.proofs.lists.keys_rise.Goals as goal

pub returns : goal.returns
returns c =
    rises_is witness_cmp witness_of c.args.signatures.now c.is_sorted_by.result
    (c.is_sorted_by.ensures.cases (λ a b. is_lt (witness_cmp (witness_of a) (witness_of b))) (answers_always _ _ _ (λ f a r g called. search rules)))
