use Rattle.std.proofs.Common.{refl}
use Rattle.script.specs.Text.{is_name}
use Rattle.script.proofs.WordLists.{is_named, not_named}
use Rattle.script.proofs.line.arrive_line.Goals as goal

pub returns-in_err-form : goal.returns-in_err-form
returns-in_err-form c = rw (c.from_residual.ensures, ← c.in_err-form.ensures) refl

pub returns-in_err-name : goal.returns-in_err-name
returns-in_err-name c =
    let unnamed = not_named (is_name c.args.name.now) c.args.name.now c.in_err-name.ensures in
    rw (c.from_residual-in_err-name.ensures, ← c.in_ok-form.ensures, unnamed) refl

pub returns : goal.returns
returns c =
    let named = is_named (is_name c.args.name.now) c.args.name.now c.in_ok-name.name.text.now c.in_ok-name.ensures in
    rw (← c.in_ok-form.ensures, named.0, named.1) refl
