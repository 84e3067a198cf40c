use Rattle.std.proofs.Common.{◌≡◌, ap, ◌∙◌}
use Rattle.std.specs.FinMap as finite
use Rattle.model.specs.Transaction.{Output}
use Rattle.model.specs.Utxo.{Utxo}
use Rattle.tx.specs.View.{input_of, output_of}
use Rattle.watching.specs.Histories.{owner_of}
use Rattle.watching.specs.Owned.{owned_at}
use Rattle.watching.proofs.Owning.{given_as, set_given}
use Rattle.watching.proofs.owners.Owners.add.Goals as goal

pub returns : goal.returns
returns c =
    let owned = c.args.self.now in
    let i = input_of c.args.input.now in
    let x = output_of c.args.output.now in
    let mine = owner_of x in
    let more : c.insert.new.self ≡ finite.insert (owned_at owned mine) i x =
    c.in_ok-insert.ensures.ok
    ∙ ap (λ (u : Utxo). finite.insert u i (output_of c.in_ok-try_clone.field-0)) (c.in_ok-outputs.ensures ∙ ap (owned_at owned) c.of-owner.ensures)
    ∙ ap (λ (o : Output). finite.insert (owned_at owned mine) i o) c.in_ok-try_clone.ensures in
    given_as owned c.set.new.self c.of-owner.result mine c.insert.new.self (finite.insert (owned_at owned mine) i x) c.of-owner.ensures more
    (set_given owned c.set.new.self c.of-owner.result c.insert.new.self c.in_ok-set.ensures)
