use Rattle.script.proofs.WordLists.{read, at_end}
use Rattle.script.proofs.line.said_with.Goals as goal

pub returns-in-None-default-default : goal.returns-in-None-default-default
returns-in-None-default-default c =
    let arm = c.in-None-default-default in
    let end = at_end _ _ c.next_word-first.ensures.word arm.is-0 in
    rw end c.word_line.ensures

pub returns-in-Some-None-default : goal.returns-in-Some-None-default
returns-in-Some-None-default c =
    let arm = c.in-Some-None-default in
    let first = read _ _ _ arm.name c.next_word-first.ensures.word c.next_word-first.ensures.rest arm.is-0 in
    let end = at_end _ _ c.next_word-second.ensures.word arm.is-1 in
    rw (first, end) c.named_line.ensures

pub returns-in-Some-Some-None : goal.returns-in-Some-Some-None
returns-in-Some-Some-None c =
    let arm = c.in-Some-Some-None in
    let first = read _ _ _ arm.first c.next_word-first.ensures.word c.next_word-first.ensures.rest arm.is-0 in
    let second = read _ _ _ arm.second c.next_word-second.ensures.word c.next_word-second.ensures.rest arm.is-1 in
    let end = at_end _ _ c.next_word-third.ensures.word arm.is-2 in
    rw (first, second, end) c.pair_line.ensures

pub returns-in-Some-Some-Some : goal.returns-in-Some-Some-Some
returns-in-Some-Some-Some c =
    let arm = c.in-Some-Some-Some in
    let first = read _ _ _ arm.first c.next_word-first.ensures.word c.next_word-first.ensures.rest arm.is-0 in
    let second = read _ _ _ arm.second c.next_word-second.ensures.word c.next_word-second.ensures.rest arm.is-1 in
    let third = read _ _ _ arm.third c.next_word-third.ensures.word c.next_word-third.ensures.rest arm.is-2 in
    rw (first, second, third) c.long_line.ensures
