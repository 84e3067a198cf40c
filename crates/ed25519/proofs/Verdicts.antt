use Rattle.std.proofs.Common.{◌≡◌, ℕ, Bool, true, false, Some, None, Option, sym, refl, ap}
use Rattle.ed25519.specs.Verifying.{equation_holds, is_admissible, judged}
use Rattle.ed25519.specs.declared.point.Point.{Point}

pub no_key : (a r : Option Point) (s k : ℕ) → a ≡ None → false ≡ judged a r s k
no_key a r s k e = ap (λ (o : Option Point). judged o r s k) (sym e)

pub no_r : (a r : Option Point) (s k : ℕ) (x : Point) → a ≡ Some x → r ≡ None → false ≡ judged a r s k
no_r a r s k x e f = rw (e, f) refl

pub refused : (a r : Option Point) (s k : ℕ) (x y : Point) → a ≡ Some x → r ≡ Some y → is_admissible x y s ≡ false →
    false ≡ judged a r s k
refused a r s k x y e f h = rw (e, f, h) refl

pub all_there : (a r : Option Point) (s k : ℕ) (x y : Point) (b : Bool) → a ≡ Some x → r ≡ Some y →
    is_admissible x y s ≡ true → b ≡ equation_holds x y s k → b ≡ judged a r s k
all_there a r s k x y b e f h g = rw (e, f, h) g
