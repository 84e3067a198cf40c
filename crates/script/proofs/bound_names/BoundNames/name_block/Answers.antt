use Rattle.std.proofs.Common.{refl, rules}
use Rattle.byte_keys.proofs.ForCallers.{none_if}
use Rattle.script.proofs.Bindings.{after_insert}
use Rattle.script.proofs.bound_names.BoundNames.name_block.Goals as goal

pub returns-in_ok-insert-clause-by_hash : goal.returns-in_ok-insert-clause-by_hash
returns-in_ok-insert-clause-by_hash c = λ q. rw c.in_ok-insert.ensures.entries
    (after_insert (λ k. k.bytes) (λ n. n.items) q c.args.hash.bytes c.args.self.now.by_hash.entries c.args.hash c.in_ok-value.value c.args.name.now refl c.in_ok-value.ensures.items (none_if _ (search (rules, c.contains_key.ensures, c.if-not-contains_key.true))))
