-- What the code keeps of points that are added: no part of the standard.
use Rattle.std.specs.Prelude.{◌≡◌, ℕ, ◌<◌, Some, List, slice_get}
use Rattle.ed25519.specs.Arithmetic.{plus, minus, times}
use Rattle.ed25519.specs.Points.{curve_d, small_multiple}
use Rattle.ed25519.specs.declared.addend.Addend.{Addend}
use Rattle.ed25519.specs.declared.point.Point.{Point}

-- what a sum asks of the point that is added
unfoldable pub addend_of : Point → Addend
addend_of p = record {
  y_plus_x = plus p.y p.x;
  y_minus_x = minus p.y p.x;
  twice_z = times 2 p.z;
  twice_d_t = times (times 2 curve_d) p.t;
}

-- the multiples of a point by 0 to 15, ready to be added
abbrev pub AreSmallMultiples : List Addend → Point → Type 0
AreSmallMultiples multiples p = (n : ℕ) → n < 16 → slice_get multiples n ≡ Some (addend_of (small_multiple n p))
