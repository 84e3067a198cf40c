use Rattle.std.specs.Option.{option_map}
use Rattle.ident.specs.PointView.{point_of}
use Rattle.shared.specs.Later.{Same, Called}
use Rattle.serving.specs.Replies.{Lost}
use Rattle.serving.proofs.Knowing.{asked_later}
use Rattle.serving.proofs.Telling.{replied}
use Rattle.serving.proofs.node.Node.tell_set.Goals as goal

pub returns-in-Ok : goal.returns-in-Ok
returns-in-Ok g c =
    let before = c.args.caller.now in
    let called = c.in-Ok.ensures in
    replied c.intersection-outcome.result (record {
      found = option_map point_of c.in-Ok.found;
      set = c.forward.new.caller;
      call = called;
      tip = c.tip-tip.result;
      so = c.tip-tip.ensures;
      told = c.intersection-outcome.ensures;
    }) (asked_later _ _ _ _ _ (Called before before c.forward.new.caller _ (Same before) called) c.tip-tip.ensures) c.tell.ensures

pub returns-in-Err : goal.returns-in-Err
returns-in-Err g c =
    let before = c.args.caller.now in
    Lost (Called before before c.forward.new.caller _ (Same before) c.in-Err.ensures) c.fail.ensures
