use Rattle.std.proofs.Common.{◌<◌, List, ℕ, length, get_or, sym, subst, arith}
use Rattle.wellformed.specs.Parts.{IsTail}
use Rattle.wellformed.specs.Stops.{StopsAtArgument}
use Rattle.wellformed.proofs.Zeros.{one_ends, one_stops, one_found}
use Rattle.wellformed.proofs.argument.in_one_byte.Goals as goal

pub returns-in_default-clause-stops : goal.returns-in_default-clause-stops
returns-in_default-clause-stops c = one_ends c.args.bytes.now c.in_default.ensures.cases

pub returns-then-number-lt24-clause-stops : goal.returns-then-number-lt24-clause-stops
returns-then-number-lt24-clause-stops c =
    let parts = c.in-Some.ensures.cases in
    subst (λ (t : List ℕ). StopsAtArgument (IsTail 24) t (length t)) (sym parts.0) (one_stops c.in-Some.number.now c.in-Some.rest.now c.if-number-lt24.true)

pub returns-clause-found : goal.returns-clause-found
returns-clause-found c =
    let parts = c.in-Some.ensures.cases in
    let first : get_or c.args.bytes.now 0 0 < 256 = omega (arith, c.type_inv.bytes 0) in
    let fits = subst (λ (t : List ℕ). get_or t 0 0 < 256) parts.0 first in
    rw (c.into.ensures, parts.0) (one_found c.in-Some.number.now c.in-Some.rest.now c.if-number-lt24.false fits)
