use Rattle.std.proofs.Common.{◌≡◌, None, sym, ap, ◌∙◌}
use Rattle.model.specs.Utxo.{Utxo, output_at}
use Rattle.tx.specs.View.{input_of, output_of}
use Rattle.watching.specs.Owned.{only_of}
use Rattle.watching.proofs.Owning.{more_owned}
use Rattle.watching.proofs.index.Index.with.Goals as goal

pub invariant_of-result : goal.invariant_of-result
invariant_of-result c =
    let owned = c.self.inside.owners in
    let all = c.self.inside.all in
    let i = input_of c.args.input.now in
    let x = output_of c.args.output in
    let free : output_at all i ≡ None = ap (λ (u : Utxo). output_at u i) c.self.view_is ∙ c.requires in (
      (λ owner input.
          more_owned owned c.add.new.self all i x free c.self.invariant.0 c.in_ok-add.ensures owner input
          ∙ ap (λ (u : Utxo). only_of owner (output_at u input)) (sym c.in_ok-insert.ensures.ok)),
      c.self.invariant.1,
    )
