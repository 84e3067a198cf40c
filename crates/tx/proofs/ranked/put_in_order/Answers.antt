use Rattle.std.proofs.Common.{rules}
use Rattle.std.specs.Ordering.{is_lt}
use Rattle.std.proofs.lemmas.List.Sorted.{ranks_by, answers_always}
use Rattle.tx.proofs.ranked.put_in_order.Goals as goal

pub returns-clause-sorted : goal.returns-clause-sorted
returns-clause-sorted g c =
    let t = g.T.Ranked in
    c.sort_unstable_by.ensures.sorted (λ a b. is_lt (t.cmp (t.key a) (t.key b))) (ranks_by g.met.T.Ranked.total t.key) (answers_always _ _ _ (λ f a r h k. search rules))
