use Rattle.std.proofs.Common.{subst}
use Rattle.std.specs.Prelude.{List, ℕ}
use Rattle.telling.specs.Identifiers.{PrintsId}
use Rattle.commands.proofs.TextsRead.{done_with}
use Rattle.commands.proofs.texts.identify.Goals as goal

pub returns-in-Ok : goal.returns-in-Ok
returns-in-Ok g c = λ is.
    let prints = λ (bytes : List ℕ). PrintsId c.args.kind bytes (g.O.Write.contents c.args.out.now) (g.O.Write.contents c.print_identifier.new.out) in
    done_with prints c.args.text.is_binary (g.I.Read.remaining c.args.input.now) c.in_ok-bytes.bytes.items (c.in_ok-bytes.ensures is) (subst prints c.deref.ensures.value c.in-Ok.ensures.printed)
