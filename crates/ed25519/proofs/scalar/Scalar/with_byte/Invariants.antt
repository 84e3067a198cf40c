use Rattle.std.proofs.Common.{◌≡◌, ◌+◌, ◌-◌, ◌*◌, ◌/◌, ◌^◌, ◌%◌, ◌<◌}
use Rattle.ed25519.specs.Points.{order}
use Rattle.ed25519.proofs.scalar.Scalar.with_byte.Given as goal

abbrev pub invariant-loop-i : goal.invariant-loop-i
invariant-loop-i l = (l.number ≡ (l.fn.self * 2 ^ l.i + l.byte / 2 ^ (8 - l.i)) % order) × (l.number < order)
