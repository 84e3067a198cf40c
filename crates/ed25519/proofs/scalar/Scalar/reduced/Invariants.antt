use Rattle.std.proofs.Common.{◌≡◌, ◌-◌, ◌%◌, ◌<◌, drop}
use Rattle.ed25519.specs.Points.{order}
use Rattle.ed25519.specs.Encoding.{little_endian}
use Rattle.ed25519.proofs.scalar.Scalar.reduced.Given as goal

abbrev pub invariant-loop-i : goal.invariant-loop-i
invariant-loop-i l = (l.number ≡ little_endian (drop (64 - l.i) l.bytes) % order) × (l.number < order)
