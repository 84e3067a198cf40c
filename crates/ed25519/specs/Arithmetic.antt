-- Numbers modulo p = 2 ^ 255 - 19 (RFC 8032, 5.1 and 5.1.1).
use Rattle.std.specs.Prelude.{ℕ, ◌+◌, ◌-◌, ◌*◌, ◌/◌, ◌%◌, ◌^◌}

-- p (5.1)
unfoldable pub prime : ℕ
prime = 2 ^ 255 - 19

-- x + y modulo p
abbrev pub plus : ℕ → ℕ → ℕ
plus x y = (x + y) % prime

-- x - y modulo p, for a y below p
abbrev pub minus : ℕ → ℕ → ℕ
minus x y = (x + (prime - y)) % prime

-- x y modulo p
abbrev pub times : ℕ → ℕ → ℕ
times x y = (x * y) % prime

-- x ^ n modulo p
abbrev pub power : ℕ → ℕ → ℕ
power x n = x ^ n % prime

-- 1 / x modulo p, which is x ^ (p - 2), and 0 where x is 0 (5.1.1)
abbrev pub inverse : ℕ → ℕ
inverse x = power x (prime - 2)

-- a square root of -1, which is 2 ^ ((p - 1) / 4) (5.1.1)
unfoldable pub root_of_minus_one : ℕ
root_of_minus_one = power 2 ((prime - 1) / 4)
