use Rattle.std.proofs.Common.{◌≡◌, List, ap, ◌∙◌}
use Rattle.model.specs.Transaction.{Input, Output}
use Rattle.model.specs.Utxo.{with_pairs}
use Rattle.utxo_rules.specs.Diffs.{Diff, undone}
use Rattle.utxo_rules.proofs.Restoring.{undone_to}
use Rattle.utxo_rules.proofs.undoing.undone.Goals as goal

pub returns-clause-back : goal.returns-clause-back
returns-clause-back c = λ old t is after free.
    let whole : c.put_all.new.utxo ≡ undone c.args.diff.now c.args.utxo =
    c.in_ok-put_all.ensures ∙ ap (λ (ps : List (Input × Output)). with_pairs ps c.take_places.new.utxo) c.deref.ensures.value
    ∙ ap (with_pairs c.diff.inside.spent.items) c.in_ok-take_places.ensures ∙ ap (λ (d : Diff). undone d c.args.utxo) c.diff.view_is in
    undone_to c.put_all.new.utxo c.args.utxo old c.args.diff.now t whole is after free
