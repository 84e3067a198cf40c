-- Those that were checked are those that were taken.
use Rattle.std.proofs.Common.{◌≡◌}
use Rattle.block.proofs.checked_block.check_all.Given as goal

abbrev pub invariant-loop-tx : goal.invariant-loop-tx
invariant-loop-tx g l = l.checked.items ≡ l.yielded
