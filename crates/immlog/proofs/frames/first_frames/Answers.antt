use Rattle.std.proofs.Common.{List, sym, subst}
use Rattle.immlog.specs.Framed.{AreFrames}
use Rattle.immlog.specs.declared.frames.Frame.{Frame}
use Rattle.immlog.proofs.Turns.{frames_more}
use Rattle.immlog.proofs.frames.first_frames.Goals as goal

pub loop-rest-preserved : goal.loop-rest-preserved
loop-rest-preserved c =
    let more = c.in-Some.more.now in
    let all = frames_more c.args.bytes.now c.loop-rest.rest.now more c.loop-rest.frames.items c.in-Some.frame c.loop-rest.invariant c.in-Some.ensures in
    subst (λ (l : List Frame). AreFrames c.args.bytes.now l more) (sym c.in_ok-push.ensures.items) all
