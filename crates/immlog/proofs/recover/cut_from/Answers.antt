use Rattle.std.proofs.Common.{◌∙◌, sym, subst, ap, take, length}
use Rattle.model.specs.Disk.{Moment, settled}
use Rattle.immlog.specs.Steps.{IsFixed}
use Rattle.immlog.proofs.Moments.{since_call, since_same, since_then, since_touched, fixed_settled}
use Rattle.immlog.proofs.Fronts.{cut_fixed, cut_touched}
use Rattle.immlog.proofs.recover.cut_from.Goals as goal

pub returns-in_err-cut-clause-fixed : goal.returns-in_err-cut-clause-fixed
returns-in_err-cut-clause-fixed g c =
    let reads = g.D.Disk.reads c.args.disk.now in
    since_touched (IsFixed (take c.args.len reads)) c.args.len (length reads) _ _ _ _ c.cut.ensures.time
    (cut_fixed reads c.args.len _ c.requires.settled) (cut_touched reads c.args.len (length reads) _ c.requires.settled c.requires.len)

pub returns-in_err-sync-clause-fixed : goal.returns-in_err-sync-clause-fixed
returns-in_err-sync-clause-fixed g c =
    let reads = g.D.Disk.reads c.args.disk.now in
    let Q : Moment → Type 0 = IsFixed (take c.args.len reads) in
    let first = since_touched Q c.args.len (length reads) _ _ _ _ c.cut.ensures.time
    (cut_fixed reads c.args.len _ c.requires.settled) (cut_touched reads c.args.len (length reads) _ c.requires.settled c.requires.len) in
    since_then Q _ _ _ _ _ first (since_same Q _ _ _ _ c.in_err-sync.ensures.failed c.in_err-sync.ensures.failed_clock first.here)

pub returns-clause-fixed : goal.returns-clause-fixed
returns-clause-fixed g c =
    let reads = g.D.Disk.reads c.args.disk.now in
    let Q : Moment → Type 0 = IsFixed (take c.args.len reads) in
    let first = since_touched Q c.args.len (length reads) _ _ _ _ c.cut.ensures.time
    (cut_fixed reads c.args.len _ c.requires.settled) (cut_touched reads c.args.len (length reads) _ c.requires.settled c.requires.len) in
    let kept : IsFixed (take c.args.len reads) (settled (take c.args.len reads)) = fixed_settled (take c.args.len reads) in
    since_then Q _ _ _ _ _ first (since_call Q _ _ _ _ c.in_ok-sync.ensures.clock first.here (subst Q (sym (c.in_ok-sync.ensures.sure ∙ ap settled c.in_ok-cut.ensures.cut)) kept))
