use Rattle.std.proofs.Common.{◌+◌, ◌∷◌, ◌∙◌, ap, arith, length, length-append, List, ℕ, take}
use Rattle.model.specs.Log.{records}
use Rattle.immlog.proofs.Recovering.{keeps_logs_then, cutting_keeps, take_rest}
use Rattle.immlog.proofs.recover.tidy.Goals as goal

pub returns-in_err-close_gate-clause-keeps : goal.returns-in_err-close_gate-clause-keeps
returns-in_err-close_gate-clause-keeps g c = c.close_gate.ensures.keeps c.requires.found.0 c.requires.found.1

pub cut_from-requires-clause-len : goal.cut_from-requires-clause-len
cut_from-requires-clause-len g c =
    let found = c.requires.found.0 in
    let is = c.requires.found.1 in
    let text = c.in_ok-close_gate.ensures.text found is in
    let long = ap length text.1 ∙ length-append (records found) (0 ∷ text.0) in
    omega (arith, long, is.place_is)

pub returns-in_err-cut_from-clause-keeps : goal.returns-in_err-cut_from-clause-keeps
returns-in_err-cut_from-clause-keeps g c =
    let found = c.requires.found.0 in
    let is = c.requires.found.1 in
    let text = c.in_ok-close_gate.ensures.text found is in
    keeps_logs_then _ _ _ _ _ _ (c.close_gate.ensures.keeps found is)
    (cutting_keeps (g.D.Disk.reads c.close_gate.new.disk) text.0 c.args.place found _ _ _ _ is.sizes is.place_is text.1 c.in_ok-close_gate.ensures.settled c.cut_from.ensures.fixed)

pub returns-clause-text : goal.returns-clause-text
returns-clause-text g c = λ found is.
    let text = c.in_ok-close_gate.ensures.text found is in
    c.in_ok-cut_from.ensures.text ∙ (ap (λ (l : List ℕ). take (c.args.place + 1) l) text.1 ∙ take_rest (records found) text.0 c.args.place is.place_is)

pub returns-clause-keeps : goal.returns-clause-keeps
returns-clause-keeps g c =
    let found = c.requires.found.0 in
    let is = c.requires.found.1 in
    let text = c.in_ok-close_gate.ensures.text found is in
    keeps_logs_then _ _ _ _ _ _ (c.close_gate.ensures.keeps found is)
    (cutting_keeps (g.D.Disk.reads c.close_gate.new.disk) text.0 c.args.place found _ _ _ _ is.sizes is.place_is text.1 c.in_ok-close_gate.ensures.settled c.cut_from.ensures.fixed)
