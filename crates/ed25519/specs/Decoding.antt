-- The point that bytes encode (RFC 8032, 5.1.3).
use Rattle.std.specs.Prelude.{ℕ, ◌-◌, ◌/◌, ◌%◌, ◌^◌, cond, ◌==◌, nat_lt, ◌&&◌, Option, Some, None, List}
use Rattle.ed25519.specs.Arithmetic.{prime, plus, minus, times, power, root_of_minus_one}
use Rattle.ed25519.specs.Points.{curve_d, point_at}
use Rattle.ed25519.specs.Encoding.{little_endian}
use Rattle.ed25519.specs.declared.point.Point.{Point}

-- the candidate for a root of u / v (step 2)
unfoldable pub root_candidate : ℕ → ℕ → ℕ
root_candidate u v = times (times u (power v 3)) (power (times u (power v 7)) ((prime - 5) / 8))

-- x, or else x times a root of -1, if that is a root of u / v (step 3)
unfoldable pub root_near : ℕ → ℕ → ℕ → Option ℕ
root_near u v x =
    cond (times v (times x x) == u) (Some x)
    (cond (times v (times x x) == minus 0 u) (Some (times x root_of_minus_one)) None)

-- a root of u / v, if there is one (steps 2 and 3)
unfoldable pub root_of_ratio : ℕ → ℕ → Option ℕ
root_of_ratio u v = root_near u v (root_candidate u v)

-- x or -x, whose lowest bit is `sign`; there is none where x is 0 and `sign` 1 (step 4)
unfoldable pub with_sign : ℕ → ℕ → Option ℕ
with_sign x sign = cond ((sign == 1) && (x == 0)) None (Some (cond (x % 2 == sign) x (minus 0 x)))

-- the same of a root, if there is one
abbrev pub signed_root : ℕ → Option ℕ → Option ℕ
signed_root sign None = None
signed_root sign (Some x) = with_sign x sign

-- the x of a point with this y: a root of (y y - 1) / (d y y + 1) (steps 2 to 4)
unfoldable pub x_of : ℕ → ℕ → Option ℕ
x_of y sign = signed_root sign (root_of_ratio (minus (times y y) 1) (plus (times curve_d (times y y)) 1))

-- the point with this y and this x, if there is one
abbrev pub point_of : ℕ → Option ℕ → Option Point
point_of y None = None
point_of y (Some x) = Some (point_at x y)

-- the point of 32 bytes: their highest bit is the lowest bit of its x, the other bits are its y, which is below p (step
-- 1)
unfoldable pub decoded : List ℕ → Option Point
decoded bytes =
    let y = little_endian bytes % 2 ^ 255 in
    cond (nat_lt y prime) (point_of y (x_of y (little_endian bytes / 2 ^ 255))) None
