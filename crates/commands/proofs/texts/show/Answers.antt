use Rattle.std.proofs.Common.{subst}
use Rattle.std.specs.Prelude.{List, ℕ}
use Rattle.telling.specs.Shown.{PrintsShown}
use Rattle.commands.specs.Schemes.{verifies_by}
use Rattle.commands.proofs.TextsRead.{done_with}
use Rattle.commands.proofs.texts.show.Goals as goal

pub returns-in-Ok : goal.returns-in-Ok
returns-in-Ok g c = λ is.
    let shows = λ (bytes : List ℕ). PrintsShown (verifies_by c.args.scheme) c.args.form c.args.kind bytes (g.O.Write.contents c.args.out.now) (g.O.Write.contents c.print_by.new.out) in
    done_with shows c.args.text.is_binary (g.I.Read.remaining c.args.input.now) c.in_ok-bytes.bytes.items (c.in_ok-bytes.ensures is) (subst shows c.deref.ensures.value c.in-Ok.ensures.printed)
