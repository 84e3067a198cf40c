use Rattle.std.specs.List.{AllByRecursion}
use Rattle.immlog.specs.Views.{lists_of}
use Rattle.model.specs.Log.{IsLogBlock}
use Rattle.bench.proofs.logs.blocks_of.Given as goal

-- a log takes those that are there
abbrev pub invariant-loop-n : goal.invariant-loop-n
invariant-loop-n l = AllByRecursion IsLogBlock (lists_of l.blocks.items)
