-- The curve edwards25519, its points and their sums (RFC 8032, 5.1 and 5.1.4).
--
-- A point is kept in extended coordinates: it is (x / z, y / z), and t / z is the product of the two.
use Rattle.std.specs.Prelude.{ℕ, ◌+◌, zero, suc, ◌/◌, ◌%◌, ◌^◌, Bool, ◌==◌, ◌&&◌}
use Rattle.ed25519.specs.Arithmetic.{plus, minus, times}
use Rattle.ed25519.specs.declared.point.Point.{Point}

-- d, which is -121665 / 121666 modulo p (5.1)
unfoldable pub curve_d : ℕ
curve_d = 37095705934669439343138083508754565189542113879843219016388785533085940283555

-- the point (x, y) (5.1.4)
unfoldable pub point_at : ℕ → ℕ → Point
point_at x y = record { x = x; y = y; z = 1; t = times x y }

-- the neutral point, (0, 1) (5.1.4)
abbrev pub neutral : Point
neutral = record { x = 0; y = 1; z = 1; t = 0 }

-- B, of which each key is a multiple that is made as in 5.1.5 (5.1)
unfoldable pub base_point : Point
base_point = point_at 15112221349535400772501151409588531511454012693041857206046113283949847762202
    46316835694926478169428394003475163141307993866256225615783033603165251855960

-- L, the order of B (5.1)
unfoldable pub order : ℕ
order = 2 ^ 252 + 27742317777372353535851937790883648493

-- the last lines of both lists of formulas (5.1.4)
abbrev pub of_factors : ℕ → ℕ → ℕ → ℕ → Point
of_factors e f g h = record { x = times e f; y = times g h; z = times f g; t = times e h }

-- the sum of two points (5.1.4, the first list of formulas)
unfoldable pub added : Point → Point → Point
added p q =
    let a = times (minus p.y p.x) (minus q.y q.x) in
    let b = times (plus p.y p.x) (plus q.y q.x) in
    let c = times p.t (times (times 2 curve_d) q.t) in
    let d = times p.z (times 2 q.z) in
    let e = minus b a in
    let f = minus d c in
    let g = plus d c in
    let h = plus b a in
    of_factors e f g h

-- a point added to itself (5.1.4, the second list of formulas)
unfoldable pub doubled : Point → Point
doubled p =
    let a = times p.x p.x in
    let b = times p.y p.y in
    let c = times 2 (times p.z p.z) in
    let h = plus a b in
    let e = minus h (times (plus p.x p.y) (plus p.x p.y)) in
    let g = minus a b in
    let f = plus c g in
    of_factors e f g h

-- [n]P for a small n: P added n times (2), the first time to the neutral point
unfoldable pub small_multiple : ℕ → Point → Point
small_multiple zero p = neutral
small_multiple (suc n) p = added (small_multiple n p) p

-- [16]P, by four doublings
abbrev pub sixteen_times : Point → Point
sixteen_times p = doubled (doubled (doubled (doubled p)))

-- [n]P for n < 16 ^ k, by digits of four bits: 16 times [n / 16]P, plus [n % 16]P. 64 digits are 256 bits, and no number
-- here has more. The standard leaves open by which sums a multiple is made; that all come to the same point is a law of
-- the group, which isn't used here. The formulas are complete (5.1.4), so to add or to double the neutral point is no
-- case apart.
unfoldable pub multiple : ℕ → ℕ → Point → Point
multiple zero n p = neutral
multiple (suc k) n p = added (sixteen_times (multiple k (n / 16) p)) (small_multiple (n % 16) p)

-- whether two points, neither of which has 0 for its z, are the same: x1 / z1 = x2 / z2 and y1 / z1 = y2 / z2 (as in 6)
unfoldable pub same_point : Point → Point → Bool
same_point p q = (times p.x q.z == times q.x p.z) && (times p.y q.z == times q.y p.z)

-- whether a point's order is small, at most the cofactor 8 (5.1): [8]P is the neutral point
unfoldable pub has_small_order : Point → Bool
has_small_order p = same_point (doubled (doubled (doubled p))) neutral
