use Rattle.std.proofs.Common.{◌≡◌, ℕ, ◌-◌, ◌<◌, Some, slice_get}
use Rattle.ed25519.specs.Addends.{addend_of}
use Rattle.ed25519.specs.Points.{small_multiple}
use Rattle.ed25519.proofs.point.Point.small_multiples.Given as goal

abbrev pub invariant-loop-i : goal.invariant-loop-i
invariant-loop-i l = (l.sum ≡ small_multiple (l.i - 1) l.self)
    × ((n : ℕ) → n < l.i → slice_get l.multiples n ≡ Some (addend_of (small_multiple n l.self)))
