use Rattle.std.proofs.Common.{inl, inr, ◌+◌, ◌∙◌, ap}
use Rattle.model.specs.Disk.{Moment, settled}
use Rattle.immlog.specs.Steps.{IsGateMoment}
use Rattle.immlog.proofs.Moments.{since_call, since_then, since_touched, torn_first, gate_put_back}
use Rattle.immlog.proofs.put.open_gate.Goals as goal

pub returns-in_err-write_at-clause-moments : goal.returns-in_err-write_at-clause-moments
returns-in_err-write_at-clause-moments g c =
    let Q : Moment → Type 0 = IsGateMoment c.args.place 1 (g.D.Disk.reads c.args.disk.now) in
    since_touched Q c.args.place (c.args.place + 1) _ _ _ _ c.write_at.ensures.time (inl c.requires.settled)
    (inr (inl (torn_first c.args.place (g.D.Disk.reads c.args.disk.now) _ c.requires.settled)))

pub returns-in-Err-clause-moments : goal.returns-in-Err-clause-moments
returns-in-Err-clause-moments g c =
    gate_put_back c.args.place 1 (g.D.Disk.reads c.args.disk.now) (g.D.Disk.moment c.args.disk.now) _ _ _ _ _ _ _ c.requires.settled c.write_at.ensures.time c.in-Err.ensures.failed c.in-Err.ensures.failed_clock c.put_back.ensures.time

pub returns-in-Ok-clause-moments : goal.returns-in-Ok-clause-moments
returns-in-Ok-clause-moments g c =
    let Q : Moment → Type 0 = IsGateMoment c.args.place 1 (g.D.Disk.reads c.args.disk.now) in
    let first = since_touched Q c.args.place (c.args.place + 1) _ _ _ _ c.write_at.ensures.time (inl c.requires.settled)
    (inr (inl (torn_first c.args.place (g.D.Disk.reads c.args.disk.now) _ c.requires.settled))) in
    since_then Q _ _ _ _ _ first (since_call Q _ _ _ _ c.in-Ok.ensures.clock first.here (inr (inr (c.in-Ok.ensures.sure ∙ ap settled c.in_ok-write_at.ensures.written))))
