use Rattle.std.proofs.lemmas.Result.{err_from_is_err_and}
use Rattle.cbor.proofs.shapes.nonempty_map.Goals as goal

pub returns-in_err-entries-clause-begins : goal.returns-in_err-entries-clause-begins
returns-in_err-entries-clause-begins g c =
    let p = err_from_is_err_and c.from_residual.result c.from_residual.ensures.1 in
    rw (p.1, p.2) c.in_err-entries.ensures.begins
