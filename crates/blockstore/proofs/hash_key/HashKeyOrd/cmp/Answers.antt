use Rattle.std.proofs.Common.{◌∙◌, sym}
use Rattle.std.specs.Ordering.{nat_cmp}
use Rattle.blockstore.proofs.Words.{first_word, second_word, third_word, last_word, words_differ, words_tied}
use Rattle.blockstore.proofs.hash_key.HashKeyOrd.cmp.Goals as goal

pub returns-then-mine-its : goal.returns-then-mine-its
returns-then-mine-its c =
    let a = c.word-mine.ensures in
    let b = c.word-its.ensures in
    c.cmp.ensures ∙ sym (first_word c.args.self.now c.args.other.now a.sized b.sized ∙ words_differ 0 c.args.self.now c.args.other.now c.word-mine.result c.word-its.result _ a.word b.word c.if-mine-its.true)

pub returns-then-mine-its-2 : goal.returns-then-mine-its-2
returns-then-mine-its-2 c =
    let xs = c.args.self.now in
    let ys = c.args.other.now in
    let a = c.word-mine.ensures in
    let b = c.word-its.ensures in
    let first = first_word xs ys a.sized b.sized ∙ words_tied 0 xs ys c.word-mine.result c.word-its.result _ a.word b.word c.if-mine-its.false in
    let second = second_word xs ys a.sized b.sized ∙ words_differ 8 xs ys c.word-mine-2.result c.word-its-2.result _ c.word-mine-2.ensures.word c.word-its-2.ensures.word c.if-mine-its-2.true in
    c.cmp-then-mine-its-2.ensures ∙ sym (first ∙ second)

pub returns-then-mine-its-3 : goal.returns-then-mine-its-3
returns-then-mine-its-3 c =
    let xs = c.args.self.now in
    let ys = c.args.other.now in
    let a = c.word-mine.ensures in
    let b = c.word-its.ensures in
    let first = first_word xs ys a.sized b.sized ∙ words_tied 0 xs ys c.word-mine.result c.word-its.result _ a.word b.word c.if-mine-its.false in
    let second = second_word xs ys a.sized b.sized ∙ words_tied 8 xs ys c.word-mine-2.result c.word-its-2.result _ c.word-mine-2.ensures.word c.word-its-2.ensures.word c.if-mine-its-2.false in
    let third = third_word xs ys a.sized b.sized ∙ words_differ 16 xs ys c.word-mine-3.result c.word-its-3.result _ c.word-mine-3.ensures.word c.word-its-3.ensures.word c.if-mine-its-3.true in
    c.cmp-then-mine-its-3.ensures ∙ sym (first ∙ (second ∙ third))

pub returns : goal.returns
returns c =
    let xs = c.args.self.now in
    let ys = c.args.other.now in
    let a = c.word-mine.ensures in
    let b = c.word-its.ensures in
    let first = first_word xs ys a.sized b.sized ∙ words_tied 0 xs ys c.word-mine.result c.word-its.result _ a.word b.word c.if-mine-its.false in
    let second = second_word xs ys a.sized b.sized ∙ words_tied 8 xs ys c.word-mine-2.result c.word-its-2.result _ c.word-mine-2.ensures.word c.word-its-2.ensures.word c.if-mine-its-2.false in
    let third = third_word xs ys a.sized b.sized ∙ words_tied 16 xs ys c.word-mine-3.result c.word-its-3.result _ c.word-mine-3.ensures.word c.word-its-3.ensures.word c.if-mine-its-3.false in
    let last = last_word xs ys a.sized b.sized in
    c.cmp-2.ensures ∙ (λ i. nat_cmp (c.word.ensures.word i) (c.word-2.ensures.word i)) ∙ sym (first ∙ (second ∙ (third ∙ last)))
