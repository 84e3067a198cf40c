use Rattle.std.proofs.Common.{ℕ}
use Rattle.ed25519.specs.Points.{doubled}
use Rattle.ed25519.proofs.Multiples.{twice}
use Rattle.ed25519.proofs.point.doubled.Goals as goal

pub returns : goal.returns
unfolding doubled
returns c = λ (t : ℕ). cc (twice c.squared-square.result)
