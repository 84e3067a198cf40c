use Rattle.std.proofs.Common.{◌≡◌, true, false, refl}
use Rattle.std.specs.Prelude.{bytes_eq, codes}
use Rattle.script.specs.Text.{is_name}
use Rattle.script.proofs.WordLists.{is_named, not_named}
use Rattle.script.proofs.line.spend_line.Goals as goal

pub returns-in_err-index : goal.returns-in_err-index
returns-in_err-index c =
    let is : bytes_eq c.args.from.now (codes "genesis") ≡ true = cc in
    rw (c.from_residual.ensures, is, ← c.in_err-index.ensures) refl

pub returns-then-eq : goal.returns-then-eq
returns-then-eq c =
    let is : bytes_eq c.args.from.now (codes "genesis") ≡ true = cc in
    rw (is, ← c.in_ok-index.ensures) refl

pub returns-in_err-tx : goal.returns-in_err-tx
returns-in_err-tx c =
    let is : bytes_eq c.args.from.now (codes "genesis") ≡ false = cc in
    let unnamed = not_named (is_name c.args.from.now) c.args.from.now c.in_err-tx.ensures in
    rw (c.from_residual-in_err-tx.ensures, unnamed, is) refl

pub returns-in_err-index-2 : goal.returns-in_err-index-2
returns-in_err-index-2 c =
    let is : bytes_eq c.args.from.now (codes "genesis") ≡ false = cc in
    let named = is_named (is_name c.args.from.now) c.args.from.now c.in_ok-tx.tx.text.now c.in_ok-tx.ensures in
    rw (c.from_residual-in_err-index-2.ensures, named.0, is, ← c.in_err-index-2.ensures) refl

pub returns : goal.returns
returns c =
    let is : bytes_eq c.args.from.now (codes "genesis") ≡ false = cc in
    let named = is_named (is_name c.args.from.now) c.args.from.now c.in_ok-tx.tx.text.now c.in_ok-tx.ensures in
    rw (named.0, is, ← c.in_ok-index-2.ensures, named.1) refl
