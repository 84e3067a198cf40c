use Rattle.std.proofs.Common.{inl, inr, ◌+◌, ◌∙◌, ap}
use Rattle.model.specs.Disk.{Moment, settled}
use Rattle.immlog.specs.Steps.{IsGateMoment}
use Rattle.immlog.proofs.Moments.{since_call, since_same, since_then, since_touched, torn_first}
use Rattle.immlog.proofs.put.write_gate.Goals as goal

pub returns-in_err-write_at-clause-moments : goal.returns-in_err-write_at-clause-moments
returns-in_err-write_at-clause-moments g c =
    let Q : Moment → Type 0 = IsGateMoment c.args.place c.args.gate (g.D.Disk.reads c.args.disk.now) in
    since_touched Q c.args.place (c.args.place + 1) _ _ _ _ c.write_at.ensures.time (inl c.requires.settled)
    (inr (inl (torn_first c.args.place (g.D.Disk.reads c.args.disk.now) _ c.requires.settled)))

pub returns-in_err-sync-clause-moments : goal.returns-in_err-sync-clause-moments
returns-in_err-sync-clause-moments g c =
    let Q : Moment → Type 0 = IsGateMoment c.args.place c.args.gate (g.D.Disk.reads c.args.disk.now) in
    let first = since_touched Q c.args.place (c.args.place + 1) _ _ _ _ c.write_at.ensures.time (inl c.requires.settled)
    (inr (inl (torn_first c.args.place (g.D.Disk.reads c.args.disk.now) _ c.requires.settled))) in
    since_then Q _ _ _ _ _ first (since_same Q _ _ _ _ c.in_err-sync.ensures.failed c.in_err-sync.ensures.failed_clock first.here)

pub returns-clause-moments : goal.returns-clause-moments
returns-clause-moments g c =
    let Q : Moment → Type 0 = IsGateMoment c.args.place c.args.gate (g.D.Disk.reads c.args.disk.now) in
    let first = since_touched Q c.args.place (c.args.place + 1) _ _ _ _ c.write_at.ensures.time (inl c.requires.settled)
    (inr (inl (torn_first c.args.place (g.D.Disk.reads c.args.disk.now) _ c.requires.settled))) in
    since_then Q _ _ _ _ _ first (since_call Q _ _ _ _ c.in_ok-sync.ensures.clock first.here (inr (inr (c.in_ok-sync.ensures.sure ∙ ap settled c.in_ok-write_at.ensures.written))))
