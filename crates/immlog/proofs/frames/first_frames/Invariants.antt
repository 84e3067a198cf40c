use Rattle.std.proofs.Common.{length}
use Rattle.immlog.specs.Framed.{AreFrames}
use Rattle.immlog.proofs.frames.first_frames.Given as goal

-- the records so far, and the bytes behind them
abbrev pub invariant-loop-rest : goal.invariant-loop-rest
invariant-loop-rest l = AreFrames l.bytes l.frames.items l.rest

abbrev pub decreases-loop-rest : goal.decreases-loop-rest
decreases-loop-rest l = length l.rest
