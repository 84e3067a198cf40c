use Rattle.std.proofs.Common.{sym, subst, ◌∙◌, codes}
use Rattle.std.specs.contracts.prelude.U64FromStr.TheImpl as u64
use Rattle.clap.specs.Words.{found_of, one_text}
use Rattle.clap.proofs.WalkLemmas.{first_value-rows, one_text-rows}
use Rattle.commands.specs.JobView.{IsOptionalNumber}
use Rattle.commands.proofs.Found.{optional}
use Rattle.commands.proofs.command_line.check_job.Goals as goal

pub returns : goal.returns
returns c =
    let found = found_of c.args.found.now in
    record {
      genesis_is = sym (first_value-rows found (codes "genesis")) ∙ sym c.in_ok-genesis.ensures;
      log_is = sym (first_value-rows found (codes "log")) ∙ sym c.get_str-after_log.ensures;
      script_is = sym (first_value-rows found (codes "script")) ∙ sym c.get_str-after_script.ensures;
      slot_is = subst (λ o. IsOptionalNumber o c.in-Ok.slot) (one_text-rows found (codes "slot")) (optional u64.ghosts.from_str_gives (one_text found (codes "slot")) c.in-Ok.slot c.in-Ok.ensures.none c.in-Ok.ensures.value (λ t n is. (is.0.0.0, is.0.1)));
      text_is = c.text_at-text.ensures;
    }
