use Rattle.std.proofs.Common.{true≢false, List, length, eqb, sym, ap, ◌∙◌}
use Rattle.std.proofs.lemmas.Result.{err_from_is_err_and}
use Rattle.telling.proofs.ValueTexts.{whole_refused, more_follows}
use Rattle.telling.proofs.shown.value_of.Goals as goal

pub returns-in_err-value-clause-malformed : goal.returns-in_err-value-clause-malformed
returns-in_err-value-clause-malformed c =
    let p = err_from_is_err_and c.from_residual.result c.from_residual.ensures.1 in
    rw (p.1, p.2) (whole_refused c.in_err-value.field-0.0 c.args.bytes.now c.in_err-value.ensures.malformed)

pub returns-then-not-is_empty-clause-malformed : goal.returns-then-not-is_empty-clause-malformed
returns-then-not-is_empty-clause-malformed c =
    more_follows c.args.bytes.now c.in_ok-value.value c.in_ok-value.rest.now
    (λ none. absurd (true≢false (ap (λ (r : List _). eqb (length r) 0) (sym none) ∙ (sym c.is_empty.ensures ∙ c.if-not-is_empty.true))))
    c.in_ok-value.ensures.found
