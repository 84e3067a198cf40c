use Rattle.std.proofs.Common.{sym}
use Rattle.std.proofs.lemmas.Result.{err_from_is_err_and}
use Rattle.draft.specs.Draft.{with_output}
use Rattle.tx.specs.View.{address_of}
use Rattle.script.proofs.Definitions.{pay_refused}
use Rattle.script.proofs.known.Known.pay.Goals as goal

pub returns-in_err-assets : goal.returns-in_err-assets
returns-in_err-assets c =
    let p = err_from_is_err_and c.from_residual.result c.from_residual.ensures.1 in
    rw (p.1, p.2) (λ names known d stands. pay_refused _ (address_of c.in-Some.address) _ (λ address all. with_output address c.args.coin all d) d c.args.draft.now c.in_err-assets.field-0.0 (sym (c.in-Some.ensures names known)) (c.in_err-assets.ensures names known) stands)
