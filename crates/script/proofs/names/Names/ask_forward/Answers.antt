use Rattle.std.proofs.Common.{sym}
use Rattle.std.proofs.lemmas.Result.{err_from_is_err_and}
use Rattle.script.proofs.Definitions.{points_refused}
use Rattle.script.proofs.names.Names.ask_forward.Goals as goal

pub returns-in_err-points : goal.returns-in_err-points
returns-in_err-points c =
    let p = err_from_is_err_and c.from_residual.result c.from_residual.ensures.1 in
    rw (p.1, p.2) (λ names named. points_refused names c.args.self.now c.args.name.text.now c.in-Some.id _ _ c.in_err-points.field-0.0 (sym (c.in-Some.ensures names.of_followers named.of_followers)) (c.in_err-points.ensures names.of_bytes named.of_bytes) named)
