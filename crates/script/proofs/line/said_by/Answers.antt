use Rattle.std.proofs.Common.{◌≡◌, true, false}
use Rattle.std.specs.Prelude.{bytes_eq, codes}
use Rattle.script.proofs.WordLists.{read}
use Rattle.script.proofs.line.said_by.Goals as goal

pub returns-then-eq : goal.returns-then-eq
returns-then-eq c =
    let first = read _ _ _ c.in_ok-word.word c.next_word.ensures.word c.next_word.ensures.rest c.in_ok-word.was in
    let is : bytes_eq c.in_ok-word.word.now (codes "forward") ≡ true = cc in
    rw (first, is) c.forward_line.ensures

pub returns-then-eq-2 : goal.returns-then-eq-2
returns-then-eq-2 c =
    let first = read _ _ _ c.in_ok-word.word c.next_word.ensures.word c.next_word.ensures.rest c.in_ok-word.was in
    let not : bytes_eq c.in_ok-word.word.now (codes "forward") ≡ false = cc in
    let is : bytes_eq c.in_ok-word.word.now (codes "watch") ≡ true = cc in
    rw (first, not, is) c.watch_line.ensures

pub returns-else-eq-2 : goal.returns-else-eq-2
returns-else-eq-2 c =
    let first = read _ _ _ c.in_ok-word.word c.next_word.ensures.word c.next_word.ensures.rest c.in_ok-word.was in
    let not : bytes_eq c.in_ok-word.word.now (codes "forward") ≡ false = cc in
    let neither : bytes_eq c.in_ok-word.word.now (codes "watch") ≡ false = cc in
    rw (first, not, neither) c.said_with.ensures
