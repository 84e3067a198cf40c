-- Keys (RFC 8032, 5.1.5). The private key, 32 random bytes, is `seed` here.
use Rattle.std.specs.Prelude.{ℕ, ◌+◌, ◌*◌, ◌/◌, ◌%◌, ◌^◌, List, take}
use Rattle.sha2.specs.Sha512.{sha512}
use Rattle.ed25519.specs.Points.{multiple, base_point}
use Rattle.ed25519.specs.Encoding.{little_endian, encoded}

-- of 256 bits the lowest three and the highest cleared, and the second highest set (step 2)
unfoldable pub pruned : ℕ → ℕ
pruned n = ((n % 2 ^ 254) / 8) * 8 + 2 ^ 254

-- s: the first half of the seed's digest, pruned, as a number (steps 1 to 3)
unfoldable pub secret_scalar : List ℕ → ℕ
secret_scalar seed = pruned (little_endian (take 32 (sha512 seed)))

-- A: the bytes of [s]B (steps 3 and 4)
unfoldable pub public_key : List ℕ → List ℕ
public_key seed = encoded (multiple 64 (secret_scalar seed) base_point)
