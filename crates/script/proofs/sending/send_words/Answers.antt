use Rattle.std.proofs.Common.{◌≡◌, ◌∙◌, true, false, sym, refl}
use Rattle.std.specs.Prelude.{bytes_eq, codes}
use Rattle.script.specs.WordsView.{words_left}
use Rattle.script.proofs.Sends.{too_long}
use Rattle.script.proofs.WordLists.{at_end, no_words, read}
use Rattle.script.proofs.sending.send_words.Goals as goal

pub returns-in_err-word-clause-says : goal.returns-in_err-word-clause-says
returns-in_err-word-clause-says c =
    let end = at_end _ _ c.next_word.ensures.word c.in_err-word.was in
    rw (c.from_residual.ensures, end) refl

pub returns-in_err-peer-clause-says : goal.returns-in_err-peer-clause-says
returns-in_err-peer-clause-says c =
    let first = read _ _ _ c.in_ok-word.word c.next_word.ensures.word c.next_word.ensures.rest c.in_ok-word.was in
    let end = at_end _ _ c.next_word-2.ensures.word c.in_err-peer.was in
    rw (c.from_residual-in_err-peer.ensures, first, end) refl

pub returns-in_err-name-clause-says : goal.returns-in_err-name-clause-says
returns-in_err-name-clause-says c =
    let first = read _ _ _ c.in_ok-word.word c.next_word.ensures.word c.next_word.ensures.rest c.in_ok-word.was in
    let second = read _ _ _ c.in_ok-peer.peer c.next_word-2.ensures.word c.next_word-2.ensures.rest c.in_ok-peer.was in
    let end = at_end _ _ c.next_word-3.ensures.word c.in_err-name.was in
    rw (c.from_residual-in_err-name.ensures, first, second, end) refl

pub returns-then-not-is_empty-clause-says : goal.returns-then-not-is_empty-clause-says
returns-then-not-is_empty-clause-says c =
    let first = read _ _ _ c.in_ok-word.word c.next_word.ensures.word c.next_word.ensures.rest c.in_ok-word.was in
    let second = read _ _ _ c.in_ok-peer.peer c.next_word-2.ensures.word c.next_word-2.ensures.rest c.in_ok-peer.was in
    let third = read _ _ _ c.in_ok-name.name c.next_word-3.ensures.word c.next_word-3.ensures.rest c.in_ok-name.was in
    rw (first, second, third) (sym (too_long c.args.peers c.in_ok-word.word.now c.in_ok-peer.peer.now c.in_ok-name.name.now (words_left c.next_word-3.new.self) (sym c.is_empty.ensures ∙ c.if-not-is_empty.true)))

pub returns-then-eq-clause-says : goal.returns-then-eq-clause-says
returns-then-eq-clause-says c =
    let first = read _ _ _ c.in_ok-word.word c.next_word.ensures.word c.next_word.ensures.rest c.in_ok-word.was in
    let second = read _ _ _ c.in_ok-peer.peer c.next_word-2.ensures.word c.next_word-2.ensures.rest c.in_ok-peer.was in
    let third = read _ _ _ c.in_ok-name.name c.next_word-3.ensures.word c.next_word-3.ensures.rest c.in_ok-name.was in
    let alone = no_words _ (sym c.is_empty.ensures ∙ c.if-not-is_empty.false) in
    let is : bytes_eq c.in_ok-word.word.now (codes "send") ≡ true = cc in
    rw (first, second, third, alone, is) c.send_of.ensures.says

pub returns-else-eq-clause-says : goal.returns-else-eq-clause-says
returns-else-eq-clause-says c =
    let first = read _ _ _ c.in_ok-word.word c.next_word.ensures.word c.next_word.ensures.rest c.in_ok-word.was in
    let second = read _ _ _ c.in_ok-peer.peer c.next_word-2.ensures.word c.next_word-2.ensures.rest c.in_ok-peer.was in
    let third = read _ _ _ c.in_ok-name.name c.next_word-3.ensures.word c.next_word-3.ensures.rest c.in_ok-name.was in
    let alone = no_words _ (sym c.is_empty.ensures ∙ c.if-not-is_empty.false) in
    let is : bytes_eq c.in_ok-word.word.now (codes "send") ≡ false = cc in
    rw (first, second, third, alone, is) refl
