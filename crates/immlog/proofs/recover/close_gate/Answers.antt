use Rattle.std.proofs.Common.{◌≡◌, ◌≢◌, ◌∙◌, ap, Some, Option, ℕ, false, true}
use Rattle.std.specs.Prelude.{eqb, slice_get}
use Rattle.std.specs.Option.{option_eq}
use Rattle.immlog.proofs.Recovering.{closing_keeps}
use Rattle.immlog.proofs.recover.close_gate.Goals as goal

pub returns-in_err-write_gate-clause-keeps : goal.returns-in_err-write_gate-clause-keeps
returns-in_err-write_gate-clause-keeps g c = λ found is.
    let other : slice_get (g.D.Disk.reads c.args.disk.now) c.args.place ≢ Some 0 = λ there.
    let e : false ≡ true = c.if-eq.ensures ∙ ap (λ (o : Option ℕ). option_eq eqb o (Some 0)) (c.requires.gate ∙ there) in absurd cc in
    closing_keeps (g.D.Disk.reads c.args.disk.now) c.args.place found _ _ _ _ is c.requires.settled other c.write_gate.ensures.moments

pub returns-clause-keeps : goal.returns-clause-keeps
returns-clause-keeps g c = λ found is.
    let other : slice_get (g.D.Disk.reads c.args.disk.now) c.args.place ≢ Some 0 = λ there.
    let e : false ≡ true = c.if-eq.ensures ∙ ap (λ (o : Option ℕ). option_eq eqb o (Some 0)) (c.requires.gate ∙ there) in absurd cc in
    closing_keeps (g.D.Disk.reads c.args.disk.now) c.args.place found _ _ _ _ is c.requires.settled other c.write_gate.ensures.moments
