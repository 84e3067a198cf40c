use Rattle.std.proofs.Common.{refl, rules}
use Rattle.byte_keys.proofs.ForCallers.{none_if}
use Rattle.script.proofs.Bindings.{after_insert, tx_named_before, tx_named_now}
use Rattle.script.proofs.tx_names.TxNames.name_tx.Goals as goal

pub returns-in_ok-insert : goal.returns-in_ok-insert
returns-in_ok-insert c = λ names tx named is.
    tx_named_now c.args.self.now names tx c.args.id c.args.name.now named is (record { alloc = c.args.self.now.alloc; by_id = c.insert.new.self })
    (λ q. rw c.in_ok-insert.ensures.entries
    (after_insert (λ k. k.bytes) (λ n. n.items) q c.args.id.bytes c.args.self.now.by_id.entries c.args.id c.in_ok-value.value c.args.name.now refl c.in_ok-value.ensures.items (none_if _ (search (rules, c.contains_key.ensures, c.if-not-contains_key.true)))))

pub returns-else-not-contains_key : goal.returns-else-not-contains_key
returns-else-not-contains_key c = λ names tx named is. tx_named_before c.args.self.now names tx c.args.id c.args.name.now named is (search (rules, c.contains_key.ensures, c.if-not-contains_key.false))
