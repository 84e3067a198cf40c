use Rattle.std.proofs.Common.{◌≡◌, ℕ, ◌+◌, ◌-◌, ◌*◌, ◌/◌, ◌^◌}
use Rattle.ed25519.specs.Addends.{AreSmallMultiples}
use Rattle.ed25519.specs.Points.{multiple}
use Rattle.ed25519.specs.declared.point.Point.{Point}
use Rattle.ed25519.proofs.point.through_word.Given as goal

abbrev pub invariant-loop-i : goal.invariant-loop-i
invariant-loop-i l = (p : Point) → AreSmallMultiples l.multiples p → (k m : ℕ) → l.fn.start ≡ multiple k m p →
    l.sum ≡ multiple (k + l.i) (m * 2 ^ (4 * l.i) + l.word / 2 ^ (64 - 4 * l.i)) p
