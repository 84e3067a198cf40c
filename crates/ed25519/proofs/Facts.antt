-- What the standard says of its constants, by computing.
use Rattle.std.proofs.Common.{◌≡◌, ◌+◌, ◌-◌, ◌/◌, ◌%◌, ◌^◌, ◌<◌, ℕ, zero, suc, true, inl, inr, lit<, refl, sym, ap, ◌∙◌}
use Rattle.std.proofs.Common.{cond, ◌==◌, arith}
use Rattle.std.proofs.Math.Nat.{pow-suc, pow-zero}
use Rattle.std.proofs.lemmas.Bool.Decides.{eqb_tells}
use Rattle.ed25519.specs.Arithmetic.{prime, plus, minus, times, power, root_of_minus_one}
use Rattle.ed25519.specs.Points.{curve_d, base_point, point_at, order, added, doubled, small_multiple}
use Rattle.ed25519.specs.Points.{multiple, neutral, same_point}
use Rattle.ed25519.proofs.Powers.{power_sum, more_power}

-- a power by squaring, which the logic computes
unfoldable by_squaring : ℕ → ℕ → ℕ → ℕ
by_squaring zero x n = 1
by_squaring (suc k) x n =
    let half = by_squaring k x (n / 2) in
    cond (n % 2 == 1) (times (times half half) x) (times half half)

one_is : 1 ≡ 1 % prime
unfolding prime
one_is = refl

squared_is : (k x n : ℕ) → n < 2 ^ k → by_squaring k x n ≡ power x n
unfolding by_squaring
squared_is zero x n h =
    let z : n ≡ 0 = omega (arith, pow-zero 2) in
    one_is ∙ ap (λ (v : ℕ). v % prime) (sym (pow-zero x)) ∙ ap (λ (v : ℕ). power x v) (sym z)
squared_is (suc k) x n h =
    let small : n / 2 < 2 ^ k = omega (arith, pow-suc 2 k) in
    let half : by_squaring k x (n / 2) ≡ power x (n / 2) = squared_is k x (n / 2) small in
    let even : times (by_squaring k x (n / 2)) (by_squaring k x (n / 2)) ≡ power x (n / 2 + n / 2) =
    power_sum x (n / 2) (n / 2) _ _ _ half half refl in
    elim (eqb_tells (n % 2) 1) [
      | inl w ↦
          (let e : suc (n / 2 + n / 2) ≡ n = omega (arith, w.1) in
          rw w.0 (more_power x (n / 2 + n / 2) _ _ even refl ∙ ap (λ (v : ℕ). power x v) e))
      | inr w ↦
          (let e : n / 2 + n / 2 ≡ n = omega (arith, w.1) in
          rw w.0 (even ∙ ap (λ (v : ℕ). power x v) e))
    ]

exponent_below : (prime - 1) / 4 < 2 ^ 254
unfolding prime
exponent_below = lit< tt

root_computed : 19681161376707505956807079304988542015446066515923890162744021073123829784752
    ≡ by_squaring 254 2 ((prime - 1) / 4)
unfolding prime by_squaring
root_computed = refl

-- the root of -1 in digits
pub root_digits : 19681161376707505956807079304988542015446066515923890162744021073123829784752 ≡ root_of_minus_one
unfolding root_of_minus_one
root_digits = root_computed ∙ squared_is 254 2 ((prime - 1) / 4) exponent_below

root_squared : (n : ℕ) → 19681161376707505956807079304988542015446066515923890162744021073123829784752 ≡ n →
    plus (times n n) 1 ≡ 0
unfolding prime
root_squared n e = rw (← e) refl

-- d is -121665 / 121666
pub curve_d_is : plus (times curve_d 121666) 121665 ≡ 0
unfolding curve_d prime
curve_d_is = refl

-- the square of the root is -1
pub root_is : plus (times root_of_minus_one root_of_minus_one) 1 ≡ 0
root_is = root_squared root_of_minus_one root_digits

-- the y of B is 4 / 5, its x is even, and B is on the curve: y y - x x = 1 + d x x y y
pub base_y_is : times 5 base_point.y ≡ 4
unfolding base_point point_at prime
base_y_is = refl

pub base_x_even : base_point.x % 2 ≡ 0
unfolding base_point point_at prime
base_x_even = refl

pub base_on_curve : minus (times base_point.y base_point.y) (times base_point.x base_point.x)
    ≡ plus 1 (times curve_d (times (times base_point.x base_point.x) (times base_point.y base_point.y)))
unfolding base_point point_at prime curve_d
base_on_curve = refl

-- [L]B is the neutral point
pub base_order : same_point (multiple 64 order base_point) neutral ≡ true
unfolding base_point point_at prime curve_d order added doubled small_multiple multiple same_point
base_order = refl
