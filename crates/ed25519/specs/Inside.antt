-- What the words of the code's numbers stand for: no part of the standard.
use Rattle.std.specs.Prelude.{ℕ, ◌+◌, ◌*◌, ◌^◌, ◌<◌}

-- the number of five digits in base 2 ^ 51
unfoldable pub limbs : ℕ → ℕ → ℕ → ℕ → ℕ → ℕ
limbs a0 a1 a2 a3 a4 = a0 + 2 ^ 51 * a1 + 2 ^ 102 * a2 + 2 ^ 153 * a3 + 2 ^ 204 * a4

-- each digit is at most a little more than the base
abbrev pub IsLoose : ℕ → ℕ → ℕ → ℕ → ℕ → Type 0
IsLoose a0 a1 a2 a3 a4 = (a0 < 2 ^ 51 + 2 ^ 13) × (a1 < 2 ^ 51 + 2 ^ 13) × (a2 < 2 ^ 51 + 2 ^ 13)
    × (a3 < 2 ^ 51 + 2 ^ 13) × (a4 < 2 ^ 51 + 2 ^ 13)

-- the number of four words of 64 bits
unfoldable pub words : ℕ → ℕ → ℕ → ℕ → ℕ
words w0 w1 w2 w3 = w0 + 2 ^ 64 * w1 + 2 ^ 128 * w2 + 2 ^ 192 * w3

-- each of four words has 64 bits
abbrev pub AreWords : ℕ → ℕ → ℕ → ℕ → Type 0
AreWords w0 w1 w2 w3 = (w0 < 2 ^ 64) × (w1 < 2 ^ 64) × (w2 < 2 ^ 64) × (w3 < 2 ^ 64)
