use Rattle.immlog.proofs.Looking.{end_with_record}
use Rattle.immlog.proofs.part.is_end.Goals as goal

pub returns-in-Some : goal.returns-in-Some
returns-in-Some c =
    let end = end_with_record c.args.gate c.args.behind.now c.in-Some.more.now c.if-gate-eq-OPEN.false (c.is_short.ensures.0 c.if-not-is_short.false) c.in-Some.ensures in
    (λ yes. end.0 (c.are_zeros.ensures.0 yes), λ is. c.are_zeros.ensures.1 (end.1 is))
