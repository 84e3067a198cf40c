use Rattle.std.proofs.Common.{◌≡◌, ◌-◌, ◌*◌, ◌/◌, ◌^◌, ◌%◌, ◌∙◌, ap, arith}
use Rattle.std.proofs.lemmas.Option.{get_or_from_slice_get}
use Rattle.ed25519.specs.Addends.{addend_of}
use Rattle.ed25519.specs.Points.{added, doubled, small_multiple}
use Rattle.ed25519.specs.declared.point.Point.{Point}
use Rattle.ed25519.proofs.Multiples.{next_digit}
use Rattle.ed25519.proofs.point.through_word.Goals as goal

pub loop-i-preserved : goal.loop-i-preserved
loop-i-preserved c = λ p table k m s.
    let i = c.loop-i.i in
    let digit = c.args.word / 2 ^ (60 - 4 * i) % 16 in
    let four_times : c.to_point-sixteen_times.result ≡ doubled (doubled (doubled (doubled c.loop-i.sum))) = cc in
    let is = get_or_from_slice_get c.args.multiples.now digit (addend_of (small_multiple digit p)) _
    (table digit (omega arith)) in
    c.plus_addend-sum.ensures (small_multiple digit p) is
    ∙ ap (λ (v : Point). added v (small_multiple digit p)) four_times
    ∙ next_digit k m c.args.word i p c.loop-i.sum (omega arith) (c.loop-i.invariant p table k m s)
