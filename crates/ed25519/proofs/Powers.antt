use Rattle.std.proofs.Common.{◌≡◌, ℕ, zero, suc, ◌+◌, ◌*◌, ◌/◌, ◌-◌, ◌^◌, ◌%◌, ◌<◌, sym, refl, ap, ◌∙◌, arith}
use Rattle.std.proofs.Math.Nat.{mod-eq_of_lt, pow-suc, pow-zero, mod-lt, one-mul}
use Rattle.std.proofs.lemmas.Nat.{mul-mod, mul-mod_first, pow-mod, pow-add}
use Rattle.ed25519.specs.Arithmetic.{power, prime, times}
use Rattle.ed25519.proofs.Products.{prime_pos}

pub pow_mul : (x m n : ℕ) → (x ^ m) ^ n ≡ x ^ (m * n)
pow_mul x m zero = rw (pow-zero, (let e : m * zero ≡ zero = omega arith in e)) (sym (pow-zero x))
pow_mul x m (suc n) =
    let e : m * suc n ≡ m * n + m = omega arith in
    rw (pow-suc (x ^ m) n, e, pow-add x (m * n) m, pow_mul x m n) refl

-- the first power
pub power_one : (x : ℕ) → x < prime → x ≡ power x 1
power_one x h =
    let e : x ^ 1 ≡ x = pow-suc x 0 ∙ ap (λ (v : ℕ). v * x) (pow-zero x) ∙ one-mul x in
    sym (mod-eq_of_lt h) ∙ ap (λ (n : ℕ). n % prime) (sym e)

-- a product of two powers
pub power_sum : (x m n a b r : ℕ) → a ≡ power x m → b ≡ power x n → r ≡ times a b → r ≡ power x (m + n)
power_sum x m n a b r ea eb er =
    er ∙ ap (λ (v : ℕ). times v b) ea ∙ ap (λ (v : ℕ). times (power x m) v) eb
    ∙ sym (mul-mod (x ^ m) (x ^ n) prime) ∙ ap (λ (v : ℕ). v % prime) (sym (pow-add x m n))

-- a power of a power
pub power_product : (x m n a r : ℕ) → a ≡ power x m → r ≡ power a n → r ≡ power x (m * n)
power_product x m n a r ea er =
    er ∙ ap (λ (v : ℕ). power v n) ea ∙ pow-mod (x ^ m) n prime ∙ ap (λ (v : ℕ). v % prime) (pow_mul x m n)

-- one more square
pub power_twice : (x i a r : ℕ) → a ≡ power x (2 ^ i) → r ≡ times a a → r ≡ power x (2 ^ (i + 1))
power_twice x i a r ea er =
    let e : 2 ^ i + 2 ^ i ≡ 2 ^ (i + 1) = omega (arith, pow-add 2 i 1) in
    power_sum x (2 ^ i) (2 ^ i) a a r ea ea er ∙ ap (λ (v : ℕ). power x v) e

-- the exponent of the root
pub root_exponent : 2 ^ 252 - 3 ≡ (prime - 5) / 8
unfolding prime
root_exponent = refl

-- the exponent of the inverse
pub inverse_exponent : 2 ^ 255 - 21 ≡ prime - 2
unfolding prime
inverse_exponent = refl

pub below_prime : (x v : ℕ) → v % prime ≡ x → x < prime
below_prime x v e = rw (← e) (mod-lt v prime_pos)

-- one more factor
pub more_power : (x m a r : ℕ) → a ≡ power x m → r ≡ times a x → r ≡ power x (suc m)
more_power x m a r ea er =
    er ∙ ap (λ (v : ℕ). times v x) ea ∙ mul-mod_first (x ^ m) x prime ∙ ap (λ (v : ℕ). v % prime) (sym (pow-suc x m))

square_is : (v : ℕ) → v * v ≡ v ^ 2
square_is v = sym (pow-suc v 1 ∙ ap (λ (n : ℕ). n * v) (pow-suc v 0 ∙ ap (λ (n : ℕ). n * v) (pow-zero v) ∙ one-mul v))

pub second : (v s : ℕ) → s ≡ times v v → s ≡ power v 2
second v s es = es ∙ ap (λ (n : ℕ). n % prime) (square_is v)

pub third : (v s r : ℕ) → s ≡ times v v → r ≡ times s v → r ≡ power v 3
third v s r es er = more_power v 2 s r (second v s es) er

pub seventh : (v c s r : ℕ) → c ≡ power v 3 → s ≡ times c c → r ≡ times s v → r ≡ power v 7
seventh v c s r ec es er = more_power v 6 s r (power_sum v 3 3 c c s ec ec es) er
