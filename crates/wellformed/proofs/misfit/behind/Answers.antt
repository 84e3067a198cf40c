use Rattle.std.proofs.Common.{◌-◌, Option, ℕ, length, subst}
use Rattle.model.specs.Limits.{nesting_limit}
use Rattle.wellformed.specs.declared.misfit.Misfit.TheVariants.{Trailing, Order}
use Rattle.wellformed.specs.Walks.{FindsItem}
use Rattle.wellformed.proofs.Verdicts.{goes_on_behind, has_late_key, spells, something, nothing, no_text}
use Rattle.wellformed.proofs.OneAnswer.{only_this, nothing_else}
use Rattle.wellformed.proofs.misfit.behind.Goals as goal

pub returns-then-not-is_empty-clause-misfit : goal.returns-then-not-is_empty-clause-misfit
returns-then-not-is_empty-clause-misfit c =
    let some = something (length c.args.walk.rest.now) c.if-not-is_empty.ensures in
    goes_on_behind c.args.bytes.now c.args.walk.rest.now c.args.walk.late some c.requires

pub returns-then-not-is_empty-clause-no_text : goal.returns-then-not-is_empty-clause-no_text
returns-then-not-is_empty-clause-no_text c =
    let some = something (length c.args.walk.rest.now) c.if-not-is_empty.ensures in
    no_text c.args.bytes.now (Trailing (length c.args.bytes.now - length c.args.walk.rest.now)) (goes_on_behind c.args.bytes.now c.args.walk.rest.now c.args.walk.late some c.requires)

pub returns-then-not-is_empty-clause-only : goal.returns-then-not-is_empty-clause-only
returns-then-not-is_empty-clause-only c =
    let some = something (length c.args.walk.rest.now) c.if-not-is_empty.ensures in
    only_this c.args.bytes.now (Trailing (length c.args.bytes.now - length c.args.walk.rest.now)) (goes_on_behind c.args.bytes.now c.args.walk.rest.now c.args.walk.late some c.requires)

pub returns-clause-misfit : goal.returns-clause-misfit
returns-clause-misfit c =
    let none = nothing (length c.args.walk.rest.now) c.if-not-is_empty.ensures in
    let found = subst (λ (l : Option ℕ). FindsItem nesting_limit c.args.bytes.now c.args.walk.rest.now l) c.in_ok-left.was c.requires in
    has_late_key c.args.bytes.now c.args.walk.rest.now c.in_ok-left.left none found

pub returns-clause-no_text : goal.returns-clause-no_text
returns-clause-no_text c =
    let none = nothing (length c.args.walk.rest.now) c.if-not-is_empty.ensures in
    let found = subst (λ (l : Option ℕ). FindsItem nesting_limit c.args.bytes.now c.args.walk.rest.now l) c.in_ok-left.was c.requires in
    no_text c.args.bytes.now (Order (length c.args.bytes.now - c.in_ok-left.left)) (has_late_key c.args.bytes.now c.args.walk.rest.now c.in_ok-left.left none found)

pub returns-clause-only : goal.returns-clause-only
returns-clause-only c =
    let none = nothing (length c.args.walk.rest.now) c.if-not-is_empty.ensures in
    let found = subst (λ (l : Option ℕ). FindsItem nesting_limit c.args.bytes.now c.args.walk.rest.now l) c.in_ok-left.was c.requires in
    only_this c.args.bytes.now (Order (length c.args.bytes.now - c.in_ok-left.left)) (has_late_key c.args.bytes.now c.args.walk.rest.now c.in_ok-left.left none found)

pub returns-in_err-left-clause-whole : goal.returns-in_err-left-clause-whole
returns-in_err-left-clause-whole c =
    let none = nothing (length c.args.walk.rest.now) c.if-not-is_empty.ensures in
    let found = subst (λ (l : Option ℕ). FindsItem nesting_limit c.args.bytes.now c.args.walk.rest.now l) c.in_err-left.was c.requires in
    rw c.from_residual.ensures (spells c.args.bytes.now c.args.walk.rest.now none found)

pub returns-in_err-left-clause-only : goal.returns-in_err-left-clause-only
returns-in_err-left-clause-only c =
    let none = nothing (length c.args.walk.rest.now) c.if-not-is_empty.ensures in
    let found = subst (λ (l : Option ℕ). FindsItem nesting_limit c.args.bytes.now c.args.walk.rest.now l) c.in_err-left.was c.requires in
    rw c.from_residual.ensures (nothing_else c.args.bytes.now (spells c.args.bytes.now c.args.walk.rest.now none found))
