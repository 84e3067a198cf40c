use Rattle.std.proofs.Common.{Some, sym, ap, ◌∙◌, codes}
use Rattle.clap.specs.Words.{found_of}
use Rattle.clap.proofs.WalkLemmas.{first_value-rows}
use Rattle.commands.specs.JobView.{file_in}
use Rattle.commands.proofs.Found.{same_text}
use Rattle.commands.proofs.command_line.show_job.Goals as goal

pub returns-then-eq : goal.returns-then-eq
returns-then-eq c =
    let found = found_of c.args.found.now in
    record {
      kind_is = sym (first_value-rows found (codes "kind")) ∙ (sym c.in_ok-name.ensures ∙ ap Some (same_text c.in_ok-name.name.now (codes "log") c.if-eq.ensures));
      form_is = sym c.form_of-form.ensures;
      file_is = c.source_at-source.ensures ∙ ap file_in (c.get_str-then-eq.ensures ∙ first_value-rows found (codes "file"));
    }

pub returns-then-eq-2 : goal.returns-then-eq-2
returns-then-eq-2 c =
    let found = found_of c.args.found.now in
    record {
      kind_is = sym (first_value-rows found (codes "kind")) ∙ (sym c.in_ok-name.ensures ∙ ap Some (same_text c.in_ok-name.name.now (codes "genesis") c.if-eq-2.ensures));
      file_is = sym (first_value-rows found (codes "file")) ∙ sym c.in_ok-genesis.ensures;
      form_is = sym c.form_of-form.ensures;
    }

pub returns : goal.returns
returns c =
    let found = found_of c.args.found.now in
    record {
      kind_is = (c.in_ok-name.name.now, sym (first_value-rows found (codes "kind")) ∙ sym c.in_ok-name.ensures, sym c.in_ok-kind.ensures);
      form_is = sym c.form_of-form.ensures;
      scheme_is = (c.in_ok-by.by.now, sym (first_value-rows found (codes "scheme")) ∙ sym c.in_ok-by.ensures, sym c.in_ok-scheme.ensures);
      text_is = c.text_at-text.ensures;
    }
