use Rattle.std.proofs.Common.{◌≡◌, ◌+◌, ◌-◌, ◌*◌, ◌/◌, ◌^◌, ◌%◌, ◌<◌}
use Rattle.ed25519.specs.Points.{order}
use Rattle.ed25519.proofs.scalar.with_word_times.Given as goal

abbrev pub invariant-loop-i : goal.invariant-loop-i
invariant-loop-i l = (l.sum ≡ (l.fn.start * 2 ^ l.i + l.word / 2 ^ (64 - l.i) * l.factor) % order) × (l.sum < order)
