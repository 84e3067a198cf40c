use Rattle.std.proofs.Common.{◌≡◌, true, List, Option, Some, map, refl, subst}
use Rattle.std.specs.Prelude.{IfSome, string_bytes}
use Rattle.clap.specs.Words.{App, HasMatchesOf, Text, Row, is_simple, subcommand_rows_of}
use Rattle.commands.specs.declared.jobs.Job.{Job}
use Rattle.commands.specs.ServeLine.{node_app, IsJobOf}
use Rattle.commands.proofs.command_line.job.Goals as goal

pub returns-in-Some : goal.returns-in-Some
returns-in-Some c =
    let simple : is_simple node_app ≡ true = refl in
    let found = subst (λ (app : App). HasMatchesOf app (map string_bytes c.args.words.now) c.in_ok-matches.matches) c.in_ok-node_command.ensures c.in_ok-matches.ensures.matches in
    let job = subst (λ (o : Option Job). IfSome o (IsJobOf (subcommand_rows_of c.in_ok-matches.matches))) c.in-Some.is c.in_ok-found.ensures in
    subst (λ (found : Option (Text × List Row)). IsJobOf found c.in-Some.job) (found simple).1 job
