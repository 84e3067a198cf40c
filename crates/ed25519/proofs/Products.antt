use Rattle.std.proofs.Common.{lit<, ◌≤◌, ◌≡◌, ℕ, ◌+◌, ◌-◌, ◌*◌, ◌/◌, ◌^◌, ◌%◌, ◌<◌, sym, ap, ◌∙◌, arith}
use Rattle.std.proofs.Math.Nat.{add-mul-mod_self_left, div-add-mod, add-mod, mod-add-mod, mod-lt, le_of_lt}
use Rattle.std.proofs.lemmas.Nat.{mul-mod, and_mask}
use Rattle.std.specs.Int.Bits.{bit_and}
use Rattle.ed25519.specs.Arithmetic.{prime}
use Rattle.ed25519.specs.Inside.{limbs}

-- 2 ^ 255 counts as 19
pub wraps_round : (low high : ℕ) → (low + 2 ^ 255 * high) % prime ≡ (low + 19 * high) % prime
unfolding prime
wraps_round low high =
    let split : low + 2 ^ 255 * high ≡ (low + 19 * high) + (2 ^ 255 - 19) * high = omega arith in
    ap (λ (n : ℕ). n % (2 ^ 255 - 19)) split ∙ add-mul-mod_self_left (low + 19 * high) (2 ^ 255 - 19) high

-- the schoolbook product, its upper half apart
schoolbook : (a0 a1 a2 a3 a4 b0 b1 b2 b3 b4 : ℕ) →
    limbs a0 a1 a2 a3 a4 * limbs b0 b1 b2 b3 b4 ≡
    limbs (a0 * b0) (a0 * b1 + a1 * b0) (a0 * b2 + a1 * b1 + a2 * b0) (a0 * b3 + a1 * b2 + a2 * b1 + a3 * b0)
    (a0 * b4 + a1 * b3 + a2 * b2 + a3 * b1 + a4 * b0)
    + 2 ^ 255 * limbs (a1 * b4 + a2 * b3 + a3 * b2 + a4 * b1) (a2 * b4 + a3 * b3 + a4 * b2) (a3 * b4 + a4 * b3)
    (a4 * b4) 0
unfolding limbs
schoolbook a0 a1 a2 a3 a4 b0 b1 b2 b3 b4 = omega arith

folded : (a0 a1 a2 a3 a4 b0 b1 b2 b3 b4 : ℕ) →
    limbs (a0 * b0 + a1 * (19 * b4) + a2 * (19 * b3) + a3 * (19 * b2) + a4 * (19 * b1))
    (a0 * b1 + a1 * b0 + a2 * (19 * b4) + a3 * (19 * b3) + a4 * (19 * b2))
    (a0 * b2 + a1 * b1 + a2 * b0 + a3 * (19 * b4) + a4 * (19 * b3))
    (a0 * b3 + a1 * b2 + a2 * b1 + a3 * b0 + a4 * (19 * b4))
    (a0 * b4 + a1 * b3 + a2 * b2 + a3 * b1 + a4 * b0)
    ≡ limbs (a0 * b0) (a0 * b1 + a1 * b0) (a0 * b2 + a1 * b1 + a2 * b0) (a0 * b3 + a1 * b2 + a2 * b1 + a3 * b0)
    (a0 * b4 + a1 * b3 + a2 * b2 + a3 * b1 + a4 * b0)
    + 19 * limbs (a1 * b4 + a2 * b3 + a3 * b2 + a4 * b1) (a2 * b4 + a3 * b3 + a4 * b2) (a3 * b4 + a4 * b3) (a4 * b4) 0
unfolding limbs
folded a0 a1 a2 a3 a4 b0 b1 b2 b3 b4 = omega arith

-- the five wide digits of a product modulo p
pub product : (a0 a1 a2 a3 a4 b0 b1 b2 b3 b4 : ℕ) →
    limbs (a0 * b0 + a1 * (19 * b4) + a2 * (19 * b3) + a3 * (19 * b2) + a4 * (19 * b1))
    (a0 * b1 + a1 * b0 + a2 * (19 * b4) + a3 * (19 * b3) + a4 * (19 * b2))
    (a0 * b2 + a1 * b1 + a2 * b0 + a3 * (19 * b4) + a4 * (19 * b3))
    (a0 * b3 + a1 * b2 + a2 * b1 + a3 * b0 + a4 * (19 * b4))
    (a0 * b4 + a1 * b3 + a2 * b2 + a3 * b1 + a4 * b0) % prime
    ≡ (limbs a0 a1 a2 a3 a4 % prime) * (limbs b0 b1 b2 b3 b4 % prime) % prime
product a0 a1 a2 a3 a4 b0 b1 b2 b3 b4 =
    ap (λ (n : ℕ). n % prime) (folded a0 a1 a2 a3 a4 b0 b1 b2 b3 b4)
    ∙ sym (wraps_round _ _)
    ∙ ap (λ (n : ℕ). n % prime) (sym (schoolbook a0 a1 a2 a3 a4 b0 b1 b2 b3 b4))
    ∙ mul-mod (limbs a0 a1 a2 a3 a4) (limbs b0 b1 b2 b3 b4) prime

-- a number cut at 51 bits
pub cut : (n : ℕ) → n ≡ 2 ^ 51 * (n / 2 ^ 51) + bit_and n (2 ^ 51 - 1)
cut n = omega (arith, and_mask n 51, div-add-mod n (2 ^ 51))

pub moved : (r0 r1 r2 r3 r4 q0 m0 q1 m1 q2 m2 q3 m3 q4 m4 : ℕ) →
    r0 ≡ 2 ^ 51 * q0 + m0 → r1 + q0 ≡ 2 ^ 51 * q1 + m1 → r2 + q1 ≡ 2 ^ 51 * q2 + m2 → r3 + q2 ≡ 2 ^ 51 * q3 + m3 →
    r4 + q3 ≡ 2 ^ 51 * q4 + m4 → limbs r0 r1 r2 r3 r4 ≡ limbs m0 m1 m2 m3 m4 + 2 ^ 255 * q4
unfolding limbs
moved r0 r1 r2 r3 r4 q0 m0 q1 m1 q2 m2 q3 m3 q4 m4 e0 e1 e2 e3 e4 = omega arith

settled : (q4 m0 m1 m2 m3 m4 q5 m5 : ℕ) → m0 + 19 * q4 ≡ 2 ^ 51 * q5 + m5 →
    limbs m0 m1 m2 m3 m4 + 19 * q4 ≡ limbs m5 (m1 + q5) m2 m3 m4
unfolding limbs
settled q4 m0 m1 m2 m3 m4 q5 m5 e = omega arith

-- the carries
pub carry : (r0 r1 r2 r3 r4 q0 m0 q1 m1 q2 m2 q3 m3 q4 m4 q5 m5 : ℕ) →
    r0 ≡ 2 ^ 51 * q0 + m0 → r1 + q0 ≡ 2 ^ 51 * q1 + m1 → r2 + q1 ≡ 2 ^ 51 * q2 + m2 → r3 + q2 ≡ 2 ^ 51 * q3 + m3 →
    r4 + q3 ≡ 2 ^ 51 * q4 + m4 → m0 + 19 * q4 ≡ 2 ^ 51 * q5 + m5 →
    limbs m5 (m1 + q5) m2 m3 m4 % prime ≡ limbs r0 r1 r2 r3 r4 % prime
carry r0 r1 r2 r3 r4 q0 m0 q1 m1 q2 m2 q3 m3 q4 m4 q5 m5 e0 e1 e2 e3 e4 e5 =
    ap (λ (n : ℕ). n % prime) (sym (settled q4 m0 m1 m2 m3 m4 q5 m5 e5))
    ∙ sym (wraps_round (limbs m0 m1 m2 m3 m4) q4)
    ∙ ap (λ (n : ℕ). n % prime) (sym (moved r0 r1 r2 r3 r4 q0 m0 q1 m1 q2 m2 q3 m3 q4 m4 e0 e1 e2 e3 e4))

once_low : (m0 q0 m1 q1 m2 q2 m3 q3 m4 q4 : ℕ) →
    limbs (m0 + 19 * q4) (m1 + q0) (m2 + q1) (m3 + q2) (m4 + q3) ≡ limbs m0 (m1 + q0) (m2 + q1) (m3 + q2) (m4 + q3) +
    19 * q4
unfolding limbs
once_low m0 q0 m1 q1 m2 q2 m3 q3 m4 q4 = omega arith

once_high : (r0 r1 r2 r3 r4 q0 m0 q1 m1 q2 m2 q3 m3 q4 m4 : ℕ) →
    r0 ≡ 2 ^ 51 * q0 + m0 → r1 ≡ 2 ^ 51 * q1 + m1 → r2 ≡ 2 ^ 51 * q2 + m2 → r3 ≡ 2 ^ 51 * q3 + m3 →
    r4 ≡ 2 ^ 51 * q4 + m4 →
    limbs r0 r1 r2 r3 r4 ≡ limbs m0 (m1 + q0) (m2 + q1) (m3 + q2) (m4 + q3) + 2 ^ 255 * q4
unfolding limbs
once_high r0 r1 r2 r3 r4 q0 m0 q1 m1 q2 m2 q3 m3 q4 m4 e0 e1 e2 e3 e4 = omega arith

-- the carries of `settled`, all at once
pub carry_once : (r0 r1 r2 r3 r4 q0 m0 q1 m1 q2 m2 q3 m3 q4 m4 : ℕ) →
    r0 ≡ 2 ^ 51 * q0 + m0 → r1 ≡ 2 ^ 51 * q1 + m1 → r2 ≡ 2 ^ 51 * q2 + m2 → r3 ≡ 2 ^ 51 * q3 + m3 →
    r4 ≡ 2 ^ 51 * q4 + m4 →
    limbs (m0 + 19 * q4) (m1 + q0) (m2 + q1) (m3 + q2) (m4 + q3) % prime ≡ limbs r0 r1 r2 r3 r4 % prime
carry_once r0 r1 r2 r3 r4 q0 m0 q1 m1 q2 m2 q3 m3 q4 m4 e0 e1 e2 e3 e4 =
    ap (λ (n : ℕ). n % prime) (once_low m0 q0 m1 q1 m2 q2 m3 q3 m4 q4)
    ∙ sym (wraps_round (limbs m0 (m1 + q0) (m2 + q1) (m3 + q2) (m4 + q3)) q4)
    ∙ ap (λ (n : ℕ). n % prime) (sym (once_high r0 r1 r2 r3 r4 q0 m0 q1 m1 q2 m2 q3 m3 q4 m4 e0 e1 e2 e3 e4))

total_exact : (a0 a1 a2 a3 a4 b0 b1 b2 b3 b4 : ℕ) →
    limbs (a0 + b0) (a1 + b1) (a2 + b2) (a3 + b3) (a4 + b4) ≡ limbs a0 a1 a2 a3 a4 + limbs b0 b1 b2 b3 b4
unfolding limbs
total_exact a0 a1 a2 a3 a4 b0 b1 b2 b3 b4 = omega arith

-- the digits of a sum
pub total : (a0 a1 a2 a3 a4 b0 b1 b2 b3 b4 : ℕ) →
    limbs (a0 + b0) (a1 + b1) (a2 + b2) (a3 + b3) (a4 + b4) % prime ≡
    (limbs a0 a1 a2 a3 a4 % prime + limbs b0 b1 b2 b3 b4 % prime) % prime
total a0 a1 a2 a3 a4 b0 b1 b2 b3 b4 =
    ap (λ (n : ℕ). n % prime) (total_exact a0 a1 a2 a3 a4 b0 b1 b2 b3 b4)
    ∙ add-mod (limbs a0 a1 a2 a3 a4) (limbs b0 b1 b2 b3 b4) prime

pub prime_pos : 0 < prime
unfolding prime
prime_pos = lit< tt

pub prime_size : prime < 2 ^ 255
unfolding prime
prime_size = lit< tt

taken_away : (c a b : ℕ) → c + b ≡ a + 4 * prime → c % prime ≡ (a % prime + (prime - b % prime)) % prime
taken_away c a b e =
    let below : b % prime ≤ prime = le_of_lt (mod-lt b prime_pos) in
    let same : c + (b % prime + (prime - b % prime)) + b ≡ (a + (prime - b % prime)) + b % prime + 4 * prime =
    omega arith in
    let split : b ≡ prime * (b / prime) + b % prime = sym (div-add-mod b prime) in
    let moved' : c + prime * (1 + b / prime) ≡ (a + (prime - b % prime)) + prime * 4 = omega arith in
    sym (add-mul-mod_self_left c prime (1 + b / prime))
    ∙ ap (λ (n : ℕ). n % prime) moved'
    ∙ add-mul-mod_self_left (a + (prime - b % prime)) prime 4
    ∙ sym (mod-add-mod a prime (prime - b % prime))

gap_exact : (a0 a1 a2 a3 a4 b0 b1 b2 b3 b4 c0 c1 c2 c3 c4 : ℕ) →
    c0 + b0 ≡ a0 + (4 * (2 ^ 51 - 19)) → c1 + b1 ≡ a1 + 4 * (2 ^ 51 - 1) → c2 + b2 ≡ a2 + 4 * (2 ^ 51 - 1) →
    c3 + b3 ≡ a3 + 4 * (2 ^ 51 - 1) → c4 + b4 ≡ a4 + 4 * (2 ^ 51 - 1) →
    limbs c0 c1 c2 c3 c4 + limbs b0 b1 b2 b3 b4 ≡ limbs a0 a1 a2 a3 a4 + 4 * prime
unfolding limbs prime
gap_exact a0 a1 a2 a3 a4 b0 b1 b2 b3 b4 c0 c1 c2 c3 c4 e0 e1 e2 e3 e4 = omega arith

-- the digits of a difference, with 4 p added
pub gap : (a0 a1 a2 a3 a4 b0 b1 b2 b3 b4 c0 c1 c2 c3 c4 : ℕ) →
    c0 + b0 ≡ a0 + (4 * (2 ^ 51 - 19)) → c1 + b1 ≡ a1 + 4 * (2 ^ 51 - 1) → c2 + b2 ≡ a2 + 4 * (2 ^ 51 - 1) →
    c3 + b3 ≡ a3 + 4 * (2 ^ 51 - 1) → c4 + b4 ≡ a4 + 4 * (2 ^ 51 - 1) →
    limbs c0 c1 c2 c3 c4 % prime ≡ (limbs a0 a1 a2 a3 a4 % prime + (prime - limbs b0 b1 b2 b3 b4 % prime)) % prime
gap a0 a1 a2 a3 a4 b0 b1 b2 b3 b4 c0 c1 c2 c3 c4 e0 e1 e2 e3 e4 =
    taken_away (limbs c0 c1 c2 c3 c4) (limbs a0 a1 a2 a3 a4) (limbs b0 b1 b2 b3 b4)
    (gap_exact a0 a1 a2 a3 a4 b0 b1 b2 b3 b4 c0 c1 c2 c3 c4 e0 e1 e2 e3 e4)

square_exact : (a0 a1 a2 a3 a4 : ℕ) →
    limbs (a0 * a0 + 2 * (a1 * (19 * a4) + a2 * (19 * a3)))
    (2 * a0 * a1 + 2 * (a2 * (19 * a4)) + a3 * (19 * a3))
    (2 * a0 * a2 + a1 * a1 + 2 * (a3 * (19 * a4)))
    (2 * a0 * a3 + 2 * a1 * a2 + a4 * (19 * a4))
    (2 * a0 * a4 + 2 * a1 * a3 + a2 * a2)
    ≡ limbs (a0 * a0 + a1 * (19 * a4) + a2 * (19 * a3) + a3 * (19 * a2) + a4 * (19 * a1))
    (a0 * a1 + a1 * a0 + a2 * (19 * a4) + a3 * (19 * a3) + a4 * (19 * a2))
    (a0 * a2 + a1 * a1 + a2 * a0 + a3 * (19 * a4) + a4 * (19 * a3))
    (a0 * a3 + a1 * a2 + a2 * a1 + a3 * a0 + a4 * (19 * a4))
    (a0 * a4 + a1 * a3 + a2 * a2 + a3 * a1 + a4 * a0)
unfolding limbs
square_exact a0 a1 a2 a3 a4 = omega arith

-- the wide digits of a square
pub square : (a0 a1 a2 a3 a4 : ℕ) →
    limbs (a0 * a0 + 2 * (a1 * (19 * a4) + a2 * (19 * a3)))
    (2 * a0 * a1 + 2 * (a2 * (19 * a4)) + a3 * (19 * a3))
    (2 * a0 * a2 + a1 * a1 + 2 * (a3 * (19 * a4)))
    (2 * a0 * a3 + 2 * a1 * a2 + a4 * (19 * a4))
    (2 * a0 * a4 + 2 * a1 * a3 + a2 * a2) % prime
    ≡ (limbs a0 a1 a2 a3 a4 % prime) * (limbs a0 a1 a2 a3 a4 % prime) % prime
square a0 a1 a2 a3 a4 =
    ap (λ (n : ℕ). n % prime) (square_exact a0 a1 a2 a3 a4) ∙ product a0 a1 a2 a3 a4 a0 a1 a2 a3 a4
