use Rattle.std.proofs.Common.{◌≡◌, Bool, true, false, cond, Option, None, refl}
use Rattle.std.specs.Prelude.{bytes_eq, codes}
use Rattle.script.specs.Text.{is_name}
use Rattle.script.specs.Line.{Line}
use Rattle.script.proofs.WordLists.{is_named, not_named}
use Rattle.script.proofs.line.pair_line.Goals as goal

none_said : (raw key seed script : Bool) → (let none : Option Line = None in none) ≡ cond raw None (cond key None (cond seed None (cond script None None)))
none_said true key seed script = refl
none_said false true seed script = refl
none_said false false true script = refl
none_said false false false true = refl
none_said false false false false = refl

pub returns-in_err-name : goal.returns-in_err-name
returns-in_err-name c =
    let unnamed = not_named (is_name c.args.first.now) c.args.first.now c.in_err-name.ensures in
    let not_in : bytes_eq c.args.word.now (codes "in") ≡ false = cc in
    let not_forge : bytes_eq c.args.word.now (codes "forge") ≡ false = cc in
    let not_balance : bytes_eq c.args.word.now (codes "balance") ≡ false = cc in
    rw (c.from_residual.ensures, not_in, not_forge, not_balance, unnamed) (none_said (bytes_eq c.args.word.now (codes "raw")) (bytes_eq c.args.word.now (codes "key")) (bytes_eq c.args.word.now (codes "seed")) (bytes_eq c.args.word.now (codes "script")))

pub returns-in_err-digits : goal.returns-in_err-digits
returns-in_err-digits c =
    let named = is_named (is_name c.args.first.now) c.args.first.now c.in_ok-name.name.text.now c.in_ok-name.ensures in
    let not_in : bytes_eq c.args.word.now (codes "in") ≡ false = cc in
    let not_forge : bytes_eq c.args.word.now (codes "forge") ≡ false = cc in
    let not_balance : bytes_eq c.args.word.now (codes "balance") ≡ false = cc in
    rw (c.from_residual-in_err-digits.ensures, not_in, not_forge, not_balance, named.0, ← c.in_err-digits.ensures) (none_said (bytes_eq c.args.word.now (codes "raw")) (bytes_eq c.args.word.now (codes "key")) (bytes_eq c.args.word.now (codes "seed")) (bytes_eq c.args.word.now (codes "script")))
