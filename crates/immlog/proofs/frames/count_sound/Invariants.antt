use Rattle.std.proofs.Common.{take}
use Rattle.std.specs.List.{AllByRecursion}
use Rattle.immlog.specs.Framed.{IsSound}
use Rattle.immlog.proofs.frames.count_sound.Given as goal

-- the records so far tell the digests of their blocks
abbrev pub invariant-loop-n : goal.invariant-loop-n
invariant-loop-n l = AllByRecursion IsSound (take l.n l.frames)
