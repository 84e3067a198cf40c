use Rattle.std.proofs.Common.{◌-◌, length}
use Rattle.wellformed.specs.declared.misfit.Misfit.TheVariants.{Ends, Initial, Argument}
use Rattle.wellformed.proofs.Verdicts.{ends_early, begins_no_item, has_shorter_form, no_text}
use Rattle.wellformed.proofs.OneAnswer.{only_this}
use Rattle.wellformed.proofs.misfit.first_misfit.Goals as goal

pub returns-in-Err-Ends-clause-misfit : goal.returns-in-Err-Ends-clause-misfit
returns-in-Err-Ends-clause-misfit c =
    let stops = rw c.in-Err-Ends.field-0-is at c.in-Err-Ends.ensures.stops in
    ends_early c.args.bytes.now stops

pub returns-in-Err-Ends-clause-no_text : goal.returns-in-Err-Ends-clause-no_text
returns-in-Err-Ends-clause-no_text c =
    let stops = rw c.in-Err-Ends.field-0-is at c.in-Err-Ends.ensures.stops in
    no_text c.args.bytes.now (Ends) (ends_early c.args.bytes.now stops)

pub returns-in-Err-Ends-clause-only : goal.returns-in-Err-Ends-clause-only
returns-in-Err-Ends-clause-only c =
    let stops = rw c.in-Err-Ends.field-0-is at c.in-Err-Ends.ensures.stops in
    only_this c.args.bytes.now (Ends) (ends_early c.args.bytes.now stops)

pub returns-in-Err-Initial-clause-misfit : goal.returns-in-Err-Initial-clause-misfit
returns-in-Err-Initial-clause-misfit c =
    let stops = rw c.in-Err-Initial.field-0-is at c.in-Err-Initial.ensures.stops in
    begins_no_item c.args.bytes.now c.in-Err-Initial.left stops

pub returns-in-Err-Initial-clause-no_text : goal.returns-in-Err-Initial-clause-no_text
returns-in-Err-Initial-clause-no_text c =
    let stops = rw c.in-Err-Initial.field-0-is at c.in-Err-Initial.ensures.stops in
    no_text c.args.bytes.now (Initial (length c.args.bytes.now - c.in-Err-Initial.left)) (begins_no_item c.args.bytes.now c.in-Err-Initial.left stops)

pub returns-in-Err-Initial-clause-only : goal.returns-in-Err-Initial-clause-only
returns-in-Err-Initial-clause-only c =
    let stops = rw c.in-Err-Initial.field-0-is at c.in-Err-Initial.ensures.stops in
    only_this c.args.bytes.now (Initial (length c.args.bytes.now - c.in-Err-Initial.left)) (begins_no_item c.args.bytes.now c.in-Err-Initial.left stops)

pub returns-in-Err-Argument-clause-misfit : goal.returns-in-Err-Argument-clause-misfit
returns-in-Err-Argument-clause-misfit c =
    let stops = rw c.in-Err-Argument.field-0-is at c.in-Err-Argument.ensures.stops in
    has_shorter_form c.args.bytes.now c.in-Err-Argument.left stops

pub returns-in-Err-Argument-clause-no_text : goal.returns-in-Err-Argument-clause-no_text
returns-in-Err-Argument-clause-no_text c =
    let stops = rw c.in-Err-Argument.field-0-is at c.in-Err-Argument.ensures.stops in
    no_text c.args.bytes.now (Argument (length c.args.bytes.now - c.in-Err-Argument.left)) (has_shorter_form c.args.bytes.now c.in-Err-Argument.left stops)

pub returns-in-Err-Argument-clause-only : goal.returns-in-Err-Argument-clause-only
returns-in-Err-Argument-clause-only c =
    let stops = rw c.in-Err-Argument.field-0-is at c.in-Err-Argument.ensures.stops in
    only_this c.args.bytes.now (Argument (length c.args.bytes.now - c.in-Err-Argument.left)) (has_shorter_form c.args.bytes.now c.in-Err-Argument.left stops)
