use Rattle.std.proofs.Common.{◌≡◌, Some, None, ap, ◌∙◌}
use Rattle.clap.specs.Words.{found_of, first_value}
use Rattle.clap.proofs.WalkLemmas.{first_value-rows}
use Rattle.commands.specs.JobView.{is_given}
use Rattle.commands.proofs.command_line.is_given.Goals as goal

pub returns-in-Some : goal.returns-in-Some
returns-in-Some c =
    let found = found_of c.args.found.now in
    let seen : Some c.in-Some.text.now ≡ first_value found c.args.id.now = c.in-Some.ensures in
    c.eq.ensures ∙ ap is_given (seen ∙ first_value-rows found c.args.id.now)

pub returns-in-None : goal.returns-in-None
returns-in-None c =
    let found = found_of c.args.found.now in
    let seen : None ≡ first_value found c.args.id.now = c.in-None.ensures in
    ap is_given (seen ∙ first_value-rows found c.args.id.now)
