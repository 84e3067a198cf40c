use Rattle.std.proofs.Common.{◌∙◌, ap, ℕ, ltb, ◌%◌, ◌^◌, refl}
use Rattle.ed25519.specs.Arithmetic.{prime}
use Rattle.ed25519.proofs.Words.{below_p}
use Rattle.ed25519.proofs.scalar.Scalar.is_below_prime.Goals as goal

pub returns : goal.returns
returns c =
    below_p _ _ _ _ _ _ _ _ _ _ _ c.self.invariant.0 c.self.invariant.1 c.self.invariant.2
    c.carry-t0.ensures c.carry-t1.ensures c.carry-t2.ensures c.carry-t3.ensures refl refl refl
    ∙ ap (λ (n : ℕ). ltb (n % 2 ^ 255) prime) c.self.view_is
