use Rattle.std.proofs.Common.{◌∙◌, None, refl, rules}
use Rattle.byte_keys.proofs.ForCallers.{none_if, insert_unseen}
use Rattle.script.specs.FollowerNamesView.{number_at}
use Rattle.script.proofs.follower_names.FollowerNames.take_room.Goals as goal

pub returns-in_ok-insert-clause-names : goal.returns-in_ok-insert-clause-names
returns-in_ok-insert-clause-names c = λ names named. record {
  by_name = λ q. rw c.in_ok-insert.ensures.entries
      (insert_unseen (λ k. k.items) number_at q c.args.name.now c.args.self.now.by_name.entries c.in_ok-key.key None c.in_ok-key.ensures.items (none_if _ (search (rules, c.contains_key.ensures, c.if-not-contains_key.true))) refl
      ∙ named.by_name q);
}
