use Rattle.std.proofs.Common.{Some, refl}
use Rattle.chain_core.specs.Views.{instruction_of}
use Rattle.conversing.specs.declared.outcome.Outcome.TheVariants.{Ending}
use Rattle.serving.specs.Replies.{Lost}
use Rattle.serving.specs.Following.{Due, Ended}
use Rattle.serving.proofs.Knowing.{asked_later}
use Rattle.serving.proofs.Telling.{replied}
use Rattle.serving.proofs.node.Node.tell_due.Goals as goal

pub returns-in-Ok-Some : goal.returns-in-Ok-Some
returns-in-Ok-Some g c =
    let due = rw c.in-Ok-Some.field-0-is at c.in-Ok-Some.ensures.due in
    replied c.instructed-outcome.result
    (Due (instruction_of (Some c.in-Ok-Some.instruction)) c.due.new.caller due c.tip-tip.result c.tip-tip.ensures c.instructed-outcome.ensures)
    (asked_later _ _ _ _ _ c.due.ensures.later c.tip-tip.ensures) c.tell.ensures

pub returns-in-Ok-None : goal.returns-in-Ok-None
returns-in-Ok-None g c =
    replied Ending (Ended (rw c.in-Ok-None.field-0-is at c.in-Ok-None.ensures.ends) (rw c.in-Ok-None.field-0-is at c.in-Ok-None.ensures.due) refl)
    c.due.ensures.later c.tell-in-Ok-None.ensures

pub returns-in-Err : goal.returns-in-Err
returns-in-Err g c = Lost c.due.ensures.later c.fail.ensures
