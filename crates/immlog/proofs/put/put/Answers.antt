use Rattle.std.proofs.Common.{◌∷◌, ◌++◌, length, ◌∙◌}
use Rattle.model.specs.Disk.{Leaves}
use Rattle.model.specs.Log.{IsLogOf}
use Rattle.immlog.proofs.Moments.{since_then}
use Rattle.immlog.proofs.Crashes.{stage_leaves, opening_leaves, opened_text}
use Rattle.immlog.proofs.put.put.Goals as goal

pub returns-in_err-next-clause-crash : goal.returns-in_err-next-clause-crash
returns-in_err-next-clause-crash g c = λ done later sizes rest.
    stage_leaves done later c.args.block.now (g.D.Disk.reads c.args.disk.now) _ _ _ sizes rest c.stage.ensures.fixed

pub returns-in_err-open_gate-clause-crash : goal.returns-in_err-open_gate-clause-crash
returns-in_err-open_gate-clause-crash g c = λ done later sizes rest.
    since_then (Leaves (IsLogOf (length done) (done ++ c.args.block.now ∷ later))) _ _ _ _ _
    (stage_leaves done later c.args.block.now (g.D.Disk.reads c.args.disk.now) _ _ _ sizes rest c.stage.ensures.fixed)
    (opening_leaves done later c.args.block.now (g.D.Disk.reads c.args.disk.now) (g.D.Disk.reads c.stage.new.disk) c.args.gate _ _ _ sizes rest c.requires.place c.in_ok-next.ensures.text c.open_gate.ensures.moments)

pub returns-clause-text : goal.returns-clause-text
returns-clause-text g c = λ done rest.
    c.in_ok-open_gate.ensures.text ∙ opened_text done c.args.block.now (g.D.Disk.reads c.args.disk.now) (g.D.Disk.reads c.stage.new.disk) c.args.gate rest c.requires.place c.in_ok-next.ensures.text

pub returns-clause-crash : goal.returns-clause-crash
returns-clause-crash g c = λ done later sizes rest.
    since_then (Leaves (IsLogOf (length done) (done ++ c.args.block.now ∷ later))) _ _ _ _ _
    (stage_leaves done later c.args.block.now (g.D.Disk.reads c.args.disk.now) _ _ _ sizes rest c.stage.ensures.fixed)
    (opening_leaves done later c.args.block.now (g.D.Disk.reads c.args.disk.now) (g.D.Disk.reads c.stage.new.disk) c.args.gate _ _ _ sizes rest c.requires.place c.in_ok-next.ensures.text c.open_gate.ensures.moments)
