use Rattle.std.proofs.Common.{refl}
use Rattle.std.specs.List.{list_all}
use Rattle.script.specs.Text.{is_name}
use Rattle.script.specs.WordsView.{words_left}
use Rattle.script.proofs.WordLists.{are_all, is_named, not_all, not_named}
use Rattle.script.proofs.line.block_line.Goals as goal

pub returns-in_err-name : goal.returns-in_err-name
returns-in_err-name c =
    let unnamed = not_named (is_name c.args.name.now) c.args.name.now c.in_err-name.ensures in
    rw (c.from_residual.ensures, unnamed) refl

pub returns-in_err-parent : goal.returns-in_err-parent
returns-in_err-parent c =
    let named = is_named (is_name c.args.name.now) c.args.name.now c.in_ok-name.name.text.now c.in_ok-name.ensures in
    rw (c.from_residual-in_err-parent.ensures, named.0, ← c.in_err-parent.ensures) refl

pub returns-in_err-slot : goal.returns-in_err-slot
returns-in_err-slot c =
    let named = is_named (is_name c.args.name.now) c.args.name.now c.in_ok-name.name.text.now c.in_ok-name.ensures in
    rw (c.from_residual-in_err-slot.ensures, named.0, ← c.in_ok-parent.ensures, ← c.in_err-slot.ensures) refl

pub returns-in_err-transactions : goal.returns-in_err-transactions
returns-in_err-transactions c =
    let named = is_named (is_name c.args.name.now) c.args.name.now c.in_ok-name.name.text.now c.in_ok-name.ensures in
    let unnamed = not_all (list_all is_name (words_left c.args.transactions)) (words_left c.args.transactions) c.in_err-transactions.ensures in
    rw (c.from_residual-in_err-transactions.ensures, named.0, ← c.in_ok-parent.ensures, ← c.in_ok-slot.ensures, unnamed) refl

pub returns : goal.returns
returns c =
    let named = is_named (is_name c.args.name.now) c.args.name.now c.in_ok-name.name.text.now c.in_ok-name.ensures in
    let all = are_all (list_all is_name (words_left c.args.transactions)) (words_left c.args.transactions) (words_left c.in_ok-transactions.transactions.words) c.in_ok-transactions.ensures in
    rw (named.0, ← c.in_ok-parent.ensures, ← c.in_ok-slot.ensures, all.0, named.1, all.1) refl
