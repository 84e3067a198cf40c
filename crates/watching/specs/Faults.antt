-- Why an index doesn't take an instruction.
use Rattle.model.specs.Block.{Block}
use Rattle.model.specs.Chain.{Point, Follows}
use Rattle.watching.specs.Chains.{Watched, CanRollBack}
use Rattle.watching.specs.declared.watch_fault.WatchFault.{WatchFault}
use Rattle.watching.specs.declared.watch_fault.WatchFault.TheVariants.{NotNext, UnknownPoint, OutOfMemory}

-- why a block isn't put on: it can't come next, or it can and memory ran out
abbrev pub IsAddFault : Watched → Block → WatchFault → Type 0
IsAddFault w b NotNext = Follows w.last.tip b → ⊥
IsAddFault w b UnknownPoint = ⊥
IsAddFault w b OutOfMemory = Follows w.last.tip b

-- why nothing is rolled back: the index keeps no version that ends at the point, or it does and memory ran out
abbrev pub IsBackFault : Watched → Point → WatchFault → Type 0
IsBackFault w point NotNext = ⊥
IsBackFault w point UnknownPoint = CanRollBack w point → ⊥
IsBackFault w point OutOfMemory = CanRollBack w point
