use Rattle.std.proofs.Common.{◌≡◌, Some, None, sym, ap, ◌∙◌}
use Rattle.std.specs.FinMap as finite
use Rattle.model.specs.Transaction.{address_bytes}
use Rattle.model.specs.Utxo.{Utxo, output_at}
use Rattle.tx.specs.View.{input_of, output_of}
use Rattle.watching.specs.Owned.{owned_at, only_of}
use Rattle.watching.proofs.Owning.{given_as, set_given, less_owned, none_removed}
use Rattle.watching.proofs.index.Index.without.Goals as goal

pub returns-in-None-clause-left : goal.returns-in-None-clause-left
returns-in-None-clause-left c =
    let i = input_of c.args.input.now in
    let none : None ≡ output_at c.self.inside.all i = rw c.in-None.is at c.get.ensures in
    none_removed c.args.self i (ap (λ (u : Utxo). output_at u i) (sym c.self.view_is) ∙ sym none)

pub invariant_of-index : goal.invariant_of-index
invariant_of-index c =
    let owned = c.self.inside.owners in
    let all = c.self.inside.all in
    let i = input_of c.args.input.now in
    let x = output_of c.in_ok-output-in-Some.output in
    let mine = address_bytes x.address in
    let found : Some (output_of c.in-Some.output.now) ≡ output_at all i = rw c.in-Some.is at c.get.ensures in
    let there : output_at all i ≡ Some x = sym found ∙ ap Some (sym c.in_ok-output-in-Some.ensures) in
    let less : c.remove.new.self ≡ finite.remove (owned_at owned mine) i =
    c.in_ok-remove.ensures.ok ∙ ap (λ (u : Utxo). finite.remove u i) (c.in_ok-outputs.ensures ∙ ap (owned_at owned) c.of-owner.ensures) in
    let given = given_as owned c.set.new.self c.of-owner.result mine c.remove.new.self (finite.remove (owned_at owned mine) i) c.of-owner.ensures less (set_given owned c.set.new.self c.of-owner.result c.remove.new.self c.in_ok-set.ensures) in (
      (λ owner input.
          less_owned owned c.set.new.self all i x there c.self.invariant.0 given owner input
          ∙ ap (λ (u : Utxo). only_of owner (output_at u input)) (sym c.in_ok-remove-2.ensures.ok)),
      c.self.invariant.1,
    )
