use Rattle.std.proofs.Common.{sym, ap, ◌∙◌, codes}
use Rattle.clap.specs.Words.{found_of}
use Rattle.clap.proofs.WalkLemmas.{first_value-rows}
use Rattle.commands.specs.JobView.{file_in}
use Rattle.commands.proofs.command_line.text_at.Goals as goal

pub returns : goal.returns
returns c =
    let found = found_of c.args.found.now in
    record {
      file_is = c.source_at-source.ensures ∙ ap file_in (c.get_str-path.ensures ∙ first_value-rows found (codes "file"));
      binary_is = sym c.is_given-is_binary.ensures;
    }
