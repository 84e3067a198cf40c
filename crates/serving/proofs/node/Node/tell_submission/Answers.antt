use Rattle.std.proofs.Common.{refl}
use Rattle.mempool.specs.View.{reply_of}
use Rattle.shared.specs.Starts.{network_from}
use Rattle.conversing.specs.declared.outcome.Outcome.TheVariants.{NotAccepted}
use Rattle.serving.specs.Submitting.{TellsSubmission, Made, Spared}
use Rattle.serving.proofs.Telling.{replied}
use Rattle.serving.proofs.node.Node.tell_submission.Goals as goal

pub returns-in_ok-answer-in-Some-clause-ok : goal.returns-in_ok-answer-in-Some-clause-ok
returns-in_ok-answer-in-Some-clause-ok g c =
    let outcome = c.submitted-outcome.result in
    let made : TellsSubmission (network_from g.B.Room.start g.S.SigScheme.verifies) c.args.bytes.now c.args.caller.now c.submit.new.caller outcome =
    Made (reply_of c.in_ok-answer-in-Some.answer) c.in_ok-answer-in-Some.ensures.called c.submitted-outcome.ensures in
    replied outcome made (record { untold = outcome; was = made }) c.tell.ensures

pub returns-in-None-clause-ok : goal.returns-in-None-clause-ok
returns-in-None-clause-ok g c =
    let outcome = NotAccepted c.malformed.result in
    let spared : TellsSubmission (network_from g.B.Room.start g.S.SigScheme.verifies) c.args.bytes.now c.args.caller.now c.args.caller.now outcome =
    Spared (rw c.in-None.is at c.in_ok-found.ensures) refl (c.malformed.result, refl, c.malformed.ensures) in
    replied outcome spared (record { untold = outcome; was = spared }) c.tell-in-None.ensures
