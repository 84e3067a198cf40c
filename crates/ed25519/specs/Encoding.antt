-- Numbers and points as bytes (RFC 8032, 5.1.2).
use Rattle.std.specs.Prelude.{ℕ, ◌+◌, ◌*◌, zero, suc, ◌/◌, ◌%◌, ◌^◌, List, [], ◌∷◌}
use Rattle.ed25519.specs.Arithmetic.{times, inverse}
use Rattle.ed25519.specs.declared.point.Point.{Point}

-- the number that bytes are, the lowest one first
abbrev pub little_endian : List ℕ → ℕ
little_endian [] = 0
little_endian (b ∷ bs) = b + 256 * little_endian bs

-- the k lowest bytes of a number, the lowest one first
unfoldable pub to_bytes : ℕ → ℕ → List ℕ
to_bytes zero n = []
to_bytes (suc k) n = n % 256 ∷ to_bytes k (n / 256)

-- the 32 bytes of a point: its y, and in their highest bit the lowest bit of its x
unfoldable pub encoded : Point → List ℕ
encoded p =
    let x = times p.x (inverse p.z) in
    let y = times p.y (inverse p.z) in
    to_bytes 32 (y + 2 ^ 255 * (x % 2))
