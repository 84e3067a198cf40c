use Rattle.chain_core.specs.Views.{next_reply_of}
use Rattle.shared.specs.Starts.{network_from}
use Rattle.serving.specs.Following.{NotYet, Again}
use Rattle.serving.proofs.Knowing.{due_later}
use Rattle.serving.proofs.node.Node.due.Goals as goal

pub waits-init : goal.waits-init
waits-init g c = NotYet c.args.caller.now

pub waits-preserved : goal.waits-preserved
waits-preserved g c =
    Again c.args.caller.now c.waits.caller c.height-height.new.caller c.next-in-waits.new.caller c.height-height.result c.waits.invariant c.height-height.ensures
    (rw c.in-Ok-None.field-0-is at c.in-Ok-None.ensures.answered)

pub returns-in-Ok-Some : goal.returns-in-Ok-Some
returns-in-Ok-Some g c = record {
  due = record {
    idled = c.waits.caller;
    idle = c.waits.invariant;
    height = c.height-height.result;
    looked = c.height-height.new.caller;
    look = c.height-height.ensures;
    call = rw c.in-Ok-Some.field-0-is at c.in-Ok-Some.ensures.answered;
  };
  ends = tt;
  later =
      due_later (network_from g.B.Room.start g.S.SigScheme.verifies) c.args.id.number c.args.caller.now c.waits.caller c.height-height.new.caller c.next-in-waits.new.caller
      c.height-height.result (next_reply_of c.next-in-waits.result) c.waits.invariant c.height-height.ensures c.next-in-waits.ensures.answered;
}

pub returns-in-Err-wait_above : goal.returns-in-Err-wait_above
returns-in-Err-wait_above g c = record {
  due = record {
    idled = c.waits.caller;
    idle = c.waits.invariant;
    height = c.height-height.result;
    looked = c.height-height.new.caller;
    look = c.height-height.ensures;
    call = rw c.in-Ok-None.field-0-is at c.in-Ok-None.ensures.answered;
  };
  ends = c.in-Err-wait_above.ensures;
  later =
      due_later (network_from g.B.Room.start g.S.SigScheme.verifies) c.args.id.number c.args.caller.now c.waits.caller c.height-height.new.caller c.next-in-waits.new.caller
      c.height-height.result (next_reply_of c.next-in-waits.result) c.waits.invariant c.height-height.ensures c.next-in-waits.ensures.answered;
}

pub returns-in-Err : goal.returns-in-Err
returns-in-Err g c = record {
  due = tt;
  ends = tt;
  later =
      due_later (network_from g.B.Room.start g.S.SigScheme.verifies) c.args.id.number c.args.caller.now c.waits.caller c.height-height.new.caller c.next-in-waits.new.caller
      c.height-height.result (next_reply_of c.next-in-waits.result) c.waits.invariant c.height-height.ensures c.next-in-waits.ensures.answered;
}
