use Rattle.std.proofs.Common.{◌≡◌, true, refl}
use Rattle.std.specs.Prelude.{bytes_eq, codes}
use Rattle.script.specs.Text.{is_name}
use Rattle.script.proofs.WordLists.{is_named, not_named}
use Rattle.script.proofs.part.Owner.of_words.Goals as goal

pub returns-in_err-name : goal.returns-in_err-name
returns-in_err-name c =
    let unnamed = not_named (is_name c.args.name.now) c.args.name.now c.in_err-name.ensures in
    rw (c.from_residual.ensures, unnamed) refl

pub returns-then-eq : goal.returns-then-eq
returns-then-eq c =
    let is : bytes_eq c.args.kind.now (codes "key") ≡ true = cc in
    let named = is_named (is_name c.args.name.now) c.args.name.now c.in_ok-name.name.text.now c.in_ok-name.ensures in
    rw (named.0, is, named.1) refl
