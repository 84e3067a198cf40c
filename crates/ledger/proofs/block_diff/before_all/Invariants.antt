-- The last ones are undone.
use Rattle.std.proofs.Common.{◌≡◌, ◌-◌, length, drop}
use Rattle.ledger.specs.BlockDiffs.{all_undone}
use Rattle.ledger.proofs.block_diff.before_all.Given as goal

abbrev pub invariant-loop-done : goal.invariant-loop-done
invariant-loop-done l = l.before ≡ all_undone (drop (length l.diffs - l.done) l.diffs) l.fn.utxo
