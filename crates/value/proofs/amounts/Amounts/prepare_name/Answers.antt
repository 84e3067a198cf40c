use Rattle.std.proofs.Common.{refl, rules}
use Rattle.value.specs.Sums.{or_zero}
use Rattle.byte_keys.proofs.ForCallers.{insert_unseen, insert_keeps, none_if}
use Rattle.value.proofs.Removing.{insert_apart}
use Rattle.value.proofs.amounts.Amounts.prepare_name.Goals as goal

pub returns-in_ok-insert-clause-same : goal.returns-in_ok-insert-clause-same
returns-in_ok-insert-clause-same c = λ q. rw c.in_ok-insert.ensures.entries
    (insert_unseen (λ k. k.items) or_zero q c.args.name.now c.args.self.now.by_name.entries c.in_ok-name.name _ c.in_ok-name.ensures.items (none_if _ (search (rules, c.contains_key.ensures, c.if-not-contains_key.true))) refl)

pub returns-in_ok-insert-clause-kept : goal.returns-in_ok-insert-clause-kept
returns-in_ok-insert-clause-kept c = λ q h. rw c.in_ok-insert.ensures.entries (insert_keeps (λ k. k.items) q c.args.self.now.by_name.entries c.in_ok-name.name _ h)

pub returns-in_ok-insert-clause-others : goal.returns-in_ok-insert-clause-others
returns-in_ok-insert-clause-others c = λ q apart. rw c.in_ok-insert.ensures.entries (insert_apart (λ k. k.items) q c.args.name.now c.args.self.now.by_name.entries c.in_ok-name.name _ c.in_ok-name.ensures.items apart)
