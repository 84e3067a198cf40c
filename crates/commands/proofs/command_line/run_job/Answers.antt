use Rattle.std.proofs.Common.{sym, ◌∙◌, codes}
use Rattle.clap.specs.Words.{found_of}
use Rattle.clap.proofs.WalkLemmas.{first_value-rows}
use Rattle.commands.proofs.command_line.run_job.Goals as goal

pub returns : goal.returns
returns c =
    let found = found_of c.args.found.now in
    record {
      genesis_is = sym (first_value-rows found (codes "genesis")) ∙ sym c.in_ok-genesis.ensures;
      script_is = sym (first_value-rows found (codes "script")) ∙ sym c.in_ok-script.ensures;
      log_is = sym (first_value-rows found (codes "log")) ∙ sym c.get_str-log.ensures;
      explain_is = sym c.is_given-explain.ensures;
    }
