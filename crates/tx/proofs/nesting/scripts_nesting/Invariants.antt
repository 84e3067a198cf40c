-- The deepest so far and those that the loop has still to see nest as deep as all; where what is left has texts all has.
use Rattle.std.proofs.Common.{◌≡◌, ◌≤◌, max, drop}
use Rattle.model.specs.Script.{item_of_script}
use Rattle.tx.specs.Said.{IsSaidScript}
use Rattle.tx.proofs.Depths.{IsPartSeen}
use Rattle.tx.proofs.nesting.scripts_nesting.Given as goal

abbrev pub invariant-loop-script : goal.invariant-loop-script
invariant-loop-script l = IsPartSeen item_of_script IsSaidScript l.scripts (drop l.script-index l.scripts) l.deepest × (l.deepest ≤ 64)
