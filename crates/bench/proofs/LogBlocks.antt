-- Blocks that a log takes.
use Rattle.std.proofs.Common.{ℕ, ◌≤◌, ◌<◌, List, [], ◌∷◌, ◌++◌, length}
use Rattle.std.specs.Prelude.{Vec}
use Rattle.std.specs.declared.alloc.Global.{Global}
use Rattle.std.specs.List.{AllByRecursion}
use Rattle.immlog.specs.Views.{lists_of}
use Rattle.model.specs.Log.{IsLogBlock}

-- those of a list and one more
pub all_and_one : (blocks : List (Vec ℕ Global)) (block : Vec ℕ Global) → AllByRecursion IsLogBlock (lists_of blocks) → 0 < length block.items → length block.items ≤ 1048576 → AllByRecursion IsLogBlock (lists_of (blocks ++ block ∷ []))
all_and_one [] block all some within = (record { some = some; within = within }, tt)
all_and_one (b ∷ bs) block all some within = (all.0, all_and_one bs block all.1 some within)
