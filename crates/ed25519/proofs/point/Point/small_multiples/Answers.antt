use Rattle.std.proofs.Common.{◌≡◌, ℕ, ◌+◌, ◌-◌, length, ◌∙◌, ap, arith, rules}
use Rattle.ed25519.specs.Addends.{addend_of}
use Rattle.ed25519.specs.Points.{small_multiple}
use Rattle.ed25519.proofs.Multiples.{one_more, one_more_place}
use Rattle.ed25519.proofs.point.Point.small_multiples.Goals as goal

pub loop-i-init : goal.loop-i-init
unfolding small_multiple
loop-i-init c =
    let p = c.args.self.now in
    let places : length c.from_fn-multiples.result ≡ 16 = search rules in (
      c.neutral-sum.ensures,
      one_more_place (λ (n : ℕ). addend_of (small_multiple n p)) c.from_fn-multiples.result 0 c.of.result (omega arith)
          (c.of.ensures ∙ ap addend_of c.neutral-sum.ensures) (λ n l. absurd (omega arith)),
    )

pub loop-i-preserved : goal.loop-i-preserved
loop-i-preserved c =
    let p = c.args.self.now in
    let i = c.loop-i.i in
    let places : length c.loop-i.multiples ≡ 16 = search rules in
    let next : c.to_point-sum.result ≡ small_multiple i p =
    c.to_point-sum.ensures ∙ c.plus_addend.ensures p c.of-once.ensures
    ∙ one_more i p c.loop-i.sum (omega arith) c.loop-i.invariant.0 in
    let same : i ≡ i + 1 - 1 = omega arith in (
      next ∙ ap (λ (n : ℕ). small_multiple n p) same,
      one_more_place (λ (n : ℕ). addend_of (small_multiple n p)) c.loop-i.multiples i c.of-in-loop-i.result
          (omega arith) (c.of-in-loop-i.ensures ∙ ap addend_of next) c.loop-i.invariant.1,
    )
