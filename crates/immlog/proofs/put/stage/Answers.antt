use Rattle.std.proofs.Common.{List, ℕ, ◌++◌, sym, ap, ◌∙◌, subst, arith}
use Rattle.immlog.specs.Steps.{IsFixed}
use Rattle.immlog.proofs.Moments.{since_call, since_same, since_then, fixed_settled, fixed_longer}
use Rattle.immlog.proofs.put.stage.Goals as goal

pub returns-in_err-end-clause-fixed : goal.returns-in_err-end-clause-fixed
returns-in_err-end-clause-fixed g c =
    let reads = g.D.Disk.reads c.args.disk.now in
    c.write_end.ensures.fixed reads (subst (IsFixed reads) (sym c.requires.settled) (fixed_settled reads)) (omega (arith, c.requires.place))

pub returns-in_err-sync-clause-fixed : goal.returns-in_err-sync-clause-fixed
returns-in_err-sync-clause-fixed g c =
    let reads = g.D.Disk.reads c.args.disk.now in
    let written = c.write_end.ensures.fixed reads (subst (IsFixed reads) (sym c.requires.settled) (fixed_settled reads)) (omega (arith, c.requires.place)) in
    since_then (IsFixed reads) _ _ _ _ _ written (since_same (IsFixed reads) _ _ _ _ c.in_err-sync.ensures.failed c.in_err-sync.ensures.failed_clock written.here)

pub returns-clause-text : goal.returns-clause-text
returns-clause-text g c =
    let reads = g.D.Disk.reads c.args.disk.now in
    c.sync.ensures.same ∙ (c.in_ok-end.ensures.text ∙ ap (λ (l : List ℕ). reads ++ l) c.spell.ensures)

pub returns-clause-fixed : goal.returns-clause-fixed
returns-clause-fixed g c =
    let reads = g.D.Disk.reads c.args.disk.now in
    let written = c.write_end.ensures.fixed reads (subst (IsFixed reads) (sym c.requires.settled) (fixed_settled reads)) (omega (arith, c.requires.place)) in
    let sure : IsFixed reads (g.D.Disk.moment c.sync.new.self) = subst (IsFixed reads) (sym c.in_ok-sync.ensures.sure) (fixed_longer reads _ _ c.in_ok-end.ensures.text) in
    since_then (IsFixed reads) _ _ _ _ _ written (since_call (IsFixed reads) _ _ _ _ c.in_ok-sync.ensures.clock written.here sure)
