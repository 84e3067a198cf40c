use Rattle.std.proofs.Common.{refl, rules}
use Rattle.value.specs.Sums.{sum_under_any}
use Rattle.byte_keys.proofs.ForCallers.{insert_unseen, none_if}
use Rattle.value.proofs.Removing.{insert_apart}
use Rattle.value.proofs.amounts.AllAmounts.prepare_id.Goals as goal

pub returns-in_ok-insert-clause-same : goal.returns-in_ok-insert-clause-same
returns-in_ok-insert-clause-same c = λ q name. rw c.in_ok-insert.ensures.entries
    (insert_unseen (λ k. k.bytes) (λ o. sum_under_any o name) q c.args.id.bytes c.args.self.now.by_policy.entries c.args.id _ refl (none_if _ (search (rules, c.contains_key.ensures, c.if-not-contains_key.true))) (c.new.ensures name))

pub returns-in_ok-insert-clause-others : goal.returns-in_ok-insert-clause-others
returns-in_ok-insert-clause-others c = λ q apart. rw c.in_ok-insert.ensures.entries (insert_apart (λ k. k.bytes) q c.args.id.bytes c.args.self.now.by_policy.entries c.args.id _ refl apart)
