use Rattle.std.proofs.Common.{codes, inl, inr}
use Rattle.std.specs.Box.{box_value}
use Rattle.clap.specs.Words.{found_of, rows_of, subcommand_rows_of}
use Rattle.clap.specs.declared.parser.matches.ArgMatches.TheViews.{out-ArgMatches, out-SubCommand}
use Rattle.commands.specs.JobView.{IsShortJobOf, IsRunJob, IsSimJob, IsReplayJob, IsIdJob, IsCheckJob, IsShowJob}
use Rattle.commands.proofs.Found.{name_and_rows, same_text, some_weaker}
use Rattle.commands.proofs.command_line.short_job_of.Goals as goal

pub returns-then-eq : goal.returns-then-eq
returns-then-eq c =
    let rows = rows_of (found_of c.in_ok-name.found.now) in
    let found = name_and_rows (λ b. (out-SubCommand (box_value b)).name.now) (λ b. rows_of (found_of (out-SubCommand (box_value b)).matches)) (out-ArgMatches c.args.matches.now).subcommand
    c.in_ok-name.name.now (codes "run") rows (same_text c.in_ok-name.name.now (codes "run") c.if-eq.ensures) (rw c.in_ok-name.was at c.subcommand.ensures.name) (rw c.in_ok-name.was at c.subcommand.ensures.rows) in
    some_weaker (IsRunJob rows) (IsShortJobOf (subcommand_rows_of c.args.matches.now)) c.run_job.result (λ job is. inl (rows, found, is)) c.run_job.ensures

pub returns-then-eq-2 : goal.returns-then-eq-2
returns-then-eq-2 c =
    let rows = rows_of (found_of c.in_ok-name.found.now) in
    let found = name_and_rows (λ b. (out-SubCommand (box_value b)).name.now) (λ b. rows_of (found_of (out-SubCommand (box_value b)).matches)) (out-ArgMatches c.args.matches.now).subcommand
    c.in_ok-name.name.now (codes "sim") rows (same_text c.in_ok-name.name.now (codes "sim") c.if-eq-2.ensures) (rw c.in_ok-name.was at c.subcommand.ensures.name) (rw c.in_ok-name.was at c.subcommand.ensures.rows) in
    some_weaker (IsSimJob rows) (IsShortJobOf (subcommand_rows_of c.args.matches.now)) c.sim_job.result (λ job is. inr (inl (rows, found, is))) c.sim_job.ensures

pub returns-then-eq-3 : goal.returns-then-eq-3
returns-then-eq-3 c =
    let rows = rows_of (found_of c.in_ok-name.found.now) in
    let found = name_and_rows (λ b. (out-SubCommand (box_value b)).name.now) (λ b. rows_of (found_of (out-SubCommand (box_value b)).matches)) (out-ArgMatches c.args.matches.now).subcommand
    c.in_ok-name.name.now (codes "replay") rows (same_text c.in_ok-name.name.now (codes "replay") c.if-eq-3.ensures) (rw c.in_ok-name.was at c.subcommand.ensures.name) (rw c.in_ok-name.was at c.subcommand.ensures.rows) in
    some_weaker (IsReplayJob rows) (IsShortJobOf (subcommand_rows_of c.args.matches.now)) c.replay_job.result (λ job is. inr (inr (inl (rows, found, is)))) c.replay_job.ensures

pub returns-then-eq-4 : goal.returns-then-eq-4
returns-then-eq-4 c =
    let rows = rows_of (found_of c.in_ok-name.found.now) in
    let found = name_and_rows (λ b. (out-SubCommand (box_value b)).name.now) (λ b. rows_of (found_of (out-SubCommand (box_value b)).matches)) (out-ArgMatches c.args.matches.now).subcommand
    c.in_ok-name.name.now (codes "id") rows (same_text c.in_ok-name.name.now (codes "id") c.if-eq-4.ensures) (rw c.in_ok-name.was at c.subcommand.ensures.name) (rw c.in_ok-name.was at c.subcommand.ensures.rows) in
    some_weaker (IsIdJob rows) (IsShortJobOf (subcommand_rows_of c.args.matches.now)) c.id_job.result (λ job is. inr (inr (inr (inl (rows, found, is))))) c.id_job.ensures

pub returns-then-eq-5 : goal.returns-then-eq-5
returns-then-eq-5 c =
    let rows = rows_of (found_of c.in_ok-name.found.now) in
    let found = name_and_rows (λ b. (out-SubCommand (box_value b)).name.now) (λ b. rows_of (found_of (out-SubCommand (box_value b)).matches)) (out-ArgMatches c.args.matches.now).subcommand
    c.in_ok-name.name.now (codes "check") rows (same_text c.in_ok-name.name.now (codes "check") c.if-eq-5.ensures) (rw c.in_ok-name.was at c.subcommand.ensures.name) (rw c.in_ok-name.was at c.subcommand.ensures.rows) in
    some_weaker (IsCheckJob rows) (IsShortJobOf (subcommand_rows_of c.args.matches.now)) c.check_job.result (λ job is. inr (inr (inr (inr (inl (rows, found, is)))))) c.check_job.ensures

pub returns-then-eq-6 : goal.returns-then-eq-6
returns-then-eq-6 c =
    let rows = rows_of (found_of c.in_ok-name.found.now) in
    let found = name_and_rows (λ b. (out-SubCommand (box_value b)).name.now) (λ b. rows_of (found_of (out-SubCommand (box_value b)).matches)) (out-ArgMatches c.args.matches.now).subcommand
    c.in_ok-name.name.now (codes "show") rows (same_text c.in_ok-name.name.now (codes "show") c.if-eq-6.ensures) (rw c.in_ok-name.was at c.subcommand.ensures.name) (rw c.in_ok-name.was at c.subcommand.ensures.rows) in
    some_weaker (IsShowJob rows) (IsShortJobOf (subcommand_rows_of c.args.matches.now)) c.show_job.result (λ job is. inr (inr (inr (inr (inr (rows, found, is)))))) c.show_job.ensures
