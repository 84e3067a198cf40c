use Rattle.std.proofs.Common.{◌%◌, ◌∙◌, ap, ℕ, arith, sym}
use Rattle.std.proofs.Math.Nat.{mod-eq_of_lt}
use Rattle.ed25519.specs.Points.{order}
use Rattle.ed25519.proofs.Words.{sum_words, once, not_reached}
use Rattle.ed25519.proofs.scalar.Scalar.plus.Goals as goal

pub returns-then-reached-clause-value : goal.returns-then-reached-clause-value
returns-then-reached-clause-value c =
    let s = sum_words _ _ _ _ _ _ _ _ _ _ _ _ _ _ c.self.view_is c.other.view_is c.requires.0 c.requires.1
    c.carry-t0.ensures c.carry-t1.ensures c.carry-t2.ensures c.carry-t3.ensures in
    (once _ _ (c.less_order-less.ensures.less c.if-reached.true ∙ s) (omega (arith, c.requires))).0

pub returns-then-reached-clause-below : goal.returns-then-reached-clause-below
returns-then-reached-clause-below c =
    let s = sum_words _ _ _ _ _ _ _ _ _ _ _ _ _ _ c.self.view_is c.other.view_is c.requires.0 c.requires.1
    c.carry-t0.ensures c.carry-t1.ensures c.carry-t2.ensures c.carry-t3.ensures in
    (once _ _ (c.less_order-less.ensures.less c.if-reached.true ∙ s) (omega (arith, c.requires))).1

pub returns-else-reached-clause-value : goal.returns-else-reached-clause-value
returns-else-reached-clause-value c =
    let s = sum_words _ _ _ _ _ _ _ _ _ _ _ _ _ _ c.self.view_is c.other.view_is c.requires.0 c.requires.1
    c.carry-t0.ensures c.carry-t1.ensures c.carry-t2.ensures c.carry-t3.ensures in
    let b = not_reached _ _ c.less_order-less.ensures.reached.1 c.if-reached.false in
    sym (mod-eq_of_lt b) ∙ ap (λ (n : ℕ). n % order) s
