use Rattle.std.proofs.Common.{ap, ◌∙◌}
use Rattle.std.specs.FinMap as finite
use Rattle.model.specs.Utxo.{Utxo, output_at}
use Rattle.tx.specs.View.{input_of, output_of}
use Rattle.watching.proofs.Owning.{removed_free, removed_before, ok_as}
use Rattle.watching.proofs.index.Index.put.Goals as goal

pub with-requires : goal.with-requires
with-requires c =
    let i = input_of c.args.input.now in
    ap (λ (u : Utxo). output_at u i) c.in_ok-index.ensures.left ∙ removed_free c.args.self i

pub returns : goal.returns
returns c =
    let i = input_of c.args.input.now in
    let x = output_of c.args.output in
    ok_as c.with.result (finite.insert c.in_ok-index.index i x) (finite.insert c.args.self i x)
    (ap (λ (u : Utxo). finite.insert u i x) c.in_ok-index.ensures.left ∙ removed_before c.args.self i x) c.with.ensures
