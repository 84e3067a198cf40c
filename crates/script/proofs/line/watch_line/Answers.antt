use Rattle.std.proofs.Common.{◌≡◌, ◌∙◌, ℕ, false, cond, List, [], ◌∷◌, Some, None, refl, sym}
use Rattle.std.specs.List.{list_all}
use Rattle.script.specs.Line.{WatchKeys, watch_line, where_name}
use Rattle.script.specs.Text.{is_name}
use Rattle.script.specs.WordsView.{has_no_words, words_left}
use Rattle.script.proofs.WordLists.{are_all, at_end, is_named, no_words, not_all, not_named, read}
use Rattle.script.proofs.line.watch_line.Goals as goal

-- a name and words after it
watches : (name : List ℕ) (words : List (List ℕ)) → has_no_words words ≡ false → watch_line (name ∷ words) ≡ where_name name (cond (list_all is_name words) (Some (WatchKeys name words)) None)
watches name [] some = cc
watches name (word ∷ words) some = refl

pub returns-in_err-first : goal.returns-in_err-first
returns-in_err-first c =
    let end = at_end _ _ c.next_word.ensures.word c.in_err-first.was in
    rw (c.from_residual.ensures, end) refl

pub returns-then-is_empty : goal.returns-then-is_empty
returns-then-is_empty c =
    let first = read _ _ _ c.in_ok-first.first c.next_word.ensures.word c.next_word.ensures.rest c.in_ok-first.was in
    let alone = no_words _ (sym c.is_empty.ensures ∙ c.if-is_empty.true) in
    rw (first, alone) refl

pub returns-in_err-name : goal.returns-in_err-name
returns-in_err-name c =
    let first = read _ _ _ c.in_ok-first.first c.next_word.ensures.word c.next_word.ensures.rest c.in_ok-first.was in
    let said = watches c.in_ok-first.first.now (words_left c.next_word.new.self) (sym c.is_empty.ensures ∙ c.if-is_empty.false) in
    let unnamed = not_named (is_name c.in_ok-first.first.now) c.in_ok-first.first.now c.in_err-name.ensures in
    rw (c.from_residual-in_err-name.ensures, first, said, unnamed) refl

pub returns-in_err-keys : goal.returns-in_err-keys
returns-in_err-keys c =
    let first = read _ _ _ c.in_ok-first.first c.next_word.ensures.word c.next_word.ensures.rest c.in_ok-first.was in
    let said = watches c.in_ok-first.first.now (words_left c.next_word.new.self) (sym c.is_empty.ensures ∙ c.if-is_empty.false) in
    let named = is_named (is_name c.in_ok-first.first.now) c.in_ok-first.first.now c.in_ok-name.name.text.now c.in_ok-name.ensures in
    let none = not_all (list_all is_name (words_left c.next_word.new.self)) (words_left c.next_word.new.self) c.in_err-keys.ensures in
    rw (c.from_residual-in_err-keys.ensures, first, said, named.0, none) refl

pub returns : goal.returns
returns c =
    let first = read _ _ _ c.in_ok-first.first c.next_word.ensures.word c.next_word.ensures.rest c.in_ok-first.was in
    let said = watches c.in_ok-first.first.now (words_left c.next_word.new.self) (sym c.is_empty.ensures ∙ c.if-is_empty.false) in
    let named = is_named (is_name c.in_ok-first.first.now) c.in_ok-first.first.now c.in_ok-name.name.text.now c.in_ok-name.ensures in
    let all = are_all (list_all is_name (words_left c.next_word.new.self)) (words_left c.next_word.new.self) (words_left c.in_ok-keys.keys.words) c.in_ok-keys.ensures in
    rw (first, said, named.0, all.0, named.1, all.1) refl
