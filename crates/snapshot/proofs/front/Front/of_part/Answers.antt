use Rattle.std.proofs.Common.{◌≡◌, Some, None, rules, arith}
use Rattle.snapshot.specs.Reading.{front_at}
use Rattle.snapshot.specs.View.{front_view}
use Rattle.snapshot.proofs.FrontTexts.{front_found, no_front, front_followed, front_not_reached, if_none, not_empty, empty, holds_if, fails_if}
use Rattle.snapshot.proofs.front.Front.of_part.Goals as goal

pub returns-in_err-front-clause-none : goal.returns-in_err-front-clause-none
returns-in_err-front-clause-none c =
    let none : front_at c.args.part.now ≡ None = search rules in
    if_none c.from_residual.result _ (no_front c.args.part.now none)

pub returns-then-not-is_empty-clause-none : goal.returns-then-not-is_empty-clause-none
returns-then-not-is_empty-clause-none c =
    let e : front_at c.args.part.now ≡ Some (front_view c.in_ok-front.front, c.in_ok-front.rest.now) = search rules in
    front_followed c.args.part.now c.in_ok-front.rest.now (front_view c.in_ok-front.front) e (not_empty c.in_ok-front.rest.now c.is_empty.result c.is_empty.ensures c.if-not-is_empty.true)

pub returns-then-not-is_reached-clause-none : goal.returns-then-not-is_reached-clause-none
returns-then-not-is_reached-clause-none c =
    let e : front_at c.args.part.now ≡ Some (front_view c.in_ok-front.front, c.in_ok-front.rest.now) = search rules in
    front_not_reached c.args.part.now c.in_ok-front.rest.now (front_view c.in_ok-front.front) e (fails_if c.is_reached.result _ c.is_reached.ensures c.if-not-is_reached.true)

pub returns-clause-found : goal.returns-clause-found
returns-clause-found c =
    let e : front_at c.args.part.now ≡ Some (front_view c.in_ok-front.front, c.in_ok-front.rest.now) = search rules in
    front_found c.args.part.now c.in_ok-front.rest.now (front_view c.in_ok-front.front) (λ i. omega (arith, c.type_inv.part i)) e (empty c.in_ok-front.rest.now c.is_empty.result c.is_empty.ensures c.if-not-is_empty.false)
    (holds_if c.is_reached.result _ c.is_reached.ensures c.if-not-is_reached.false)
