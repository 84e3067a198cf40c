use Rattle.std.proofs.Common.{◌<◌, ◌+◌, ◌*◌, ◌^◌, ◌%◌, ◌∙◌, ap, ℕ, arith, sym}
use Rattle.std.proofs.Math.Nat.{mod-eq_of_lt}
use Rattle.ed25519.specs.Points.{order}
use Rattle.ed25519.specs.Inside.{words}
use Rattle.ed25519.proofs.Words.{twice_words, once, not_reached, order_size}
use Rattle.ed25519.proofs.scalar.Scalar.doubled_plus.Goals as goal

pub returns-then-reached-clause-value : goal.returns-then-reached-clause-value
returns-then-reached-clause-value c =
    let b : words c.self.inside.w0 c.self.inside.w1 c.self.inside.w2 c.self.inside.w3 < 2 ^ 255 =
    rw c.self.view_is (omega (arith, order_size, c.requires)) in
    let t = twice_words c.self.inside.w0 c.self.inside.w1 c.self.inside.w2 c.self.inside.w3 c.args.bit b
    ∙ ap (λ (n : ℕ). 2 * n + c.args.bit) c.self.view_is in
    (once _ _ (c.less_order-less.ensures.less c.if-reached.true ∙ t) (omega (arith, c.requires))).0

pub returns-then-reached-clause-below : goal.returns-then-reached-clause-below
returns-then-reached-clause-below c =
    let b : words c.self.inside.w0 c.self.inside.w1 c.self.inside.w2 c.self.inside.w3 < 2 ^ 255 =
    rw c.self.view_is (omega (arith, order_size, c.requires)) in
    let t = twice_words c.self.inside.w0 c.self.inside.w1 c.self.inside.w2 c.self.inside.w3 c.args.bit b
    ∙ ap (λ (n : ℕ). 2 * n + c.args.bit) c.self.view_is in
    (once _ _ (c.less_order-less.ensures.less c.if-reached.true ∙ t) (omega (arith, c.requires))).1

pub returns-else-reached-clause-value : goal.returns-else-reached-clause-value
returns-else-reached-clause-value c =
    let b : words c.self.inside.w0 c.self.inside.w1 c.self.inside.w2 c.self.inside.w3 < 2 ^ 255 =
    rw c.self.view_is (omega (arith, order_size, c.requires)) in
    let t = twice_words c.self.inside.w0 c.self.inside.w1 c.self.inside.w2 c.self.inside.w3 c.args.bit b
    ∙ ap (λ (n : ℕ). 2 * n + c.args.bit) c.self.view_is in
    let s = not_reached _ _ c.less_order-less.ensures.reached.1 c.if-reached.false in
    sym (mod-eq_of_lt s) ∙ ap (λ (n : ℕ). n % order) t
