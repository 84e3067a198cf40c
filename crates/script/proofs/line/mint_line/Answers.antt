use Rattle.std.proofs.Common.{◌≡◌, [], sym, ◌∙◌, refl}
use Rattle.script.specs.Text.{is_name}
use Rattle.script.specs.WordsView.{words_left}
use Rattle.script.proofs.WordLists.{is_named, no_words, not_named}
use Rattle.script.proofs.line.mint_line.Goals as goal

pub returns-in_err-script : goal.returns-in_err-script
returns-in_err-script c =
    let none = sym c.is_empty.ensures ∙ c.if-not-is_empty.false in
    let alone : words_left c.args.rest ≡ [] = no_words (words_left c.args.rest) none in
    let unnamed = not_named (is_name c.args.script.now) c.args.script.now c.in_err-script.ensures in
    rw (c.from_residual-in_err-script.ensures, alone, ← c.in_ok-name.ensures, ← c.in_ok-quantity.ensures, unnamed) refl

pub returns : goal.returns
returns c =
    let none = sym c.is_empty.ensures ∙ c.if-not-is_empty.false in
    let alone : words_left c.args.rest ≡ [] = no_words (words_left c.args.rest) none in
    let name = c.in_ok-script.script.text.now in
    let named = is_named (is_name c.args.script.now) c.args.script.now name c.in_ok-script.ensures in
    rw (alone, ← c.in_ok-name.ensures, ← c.in_ok-quantity.ensures, named.0, named.1) refl
