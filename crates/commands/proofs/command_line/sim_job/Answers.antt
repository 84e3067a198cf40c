use Rattle.std.proofs.Common.{sym, ◌∙◌, codes}
use Rattle.clap.specs.Words.{found_of, one_text}
use Rattle.clap.proofs.WalkLemmas.{first_value-rows, one_text-rows}
use Rattle.commands.proofs.Found.{there}
use Rattle.commands.proofs.command_line.sim_job.Goals as goal

pub returns : goal.returns
returns c =
    let found = found_of c.args.found.now in
    let read = there (one_text found (codes "clients")) c.in_ok-many.many c.in_ok-many.ensures.none c.in_ok-many.ensures.value in
    record {
      genesis_is = sym (first_value-rows found (codes "genesis")) ∙ sym c.in_ok-genesis.ensures;
      script_is = sym (first_value-rows found (codes "script")) ∙ sym c.in_ok-script.ensures;
      clients_are = (read.0, sym (one_text-rows found (codes "clients")) ∙ read.1, (read.2.0.0.0, c.in_ok-clients.ensures ∙ read.2.0.1));
      discard_is = sym c.is_given-discard.ensures;
    }
