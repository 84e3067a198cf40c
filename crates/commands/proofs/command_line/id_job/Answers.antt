use Rattle.std.proofs.Common.{sym, ◌∙◌, codes}
use Rattle.clap.specs.Words.{found_of}
use Rattle.clap.proofs.WalkLemmas.{first_value-rows}
use Rattle.commands.proofs.command_line.id_job.Goals as goal

pub returns : goal.returns
returns c =
    let found = found_of c.args.found.now in
    record {
      kind_is = (c.in_ok-name.name.now, sym (first_value-rows found (codes "kind")) ∙ sym c.in_ok-name.ensures, sym c.in_ok-kind.ensures);
      identified = sym c.has_identifier.ensures ∙ c.if-not-has_identifier.false;
      text_is = c.text_at-text.ensures;
    }
