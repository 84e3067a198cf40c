use Rattle.std.proofs.Common.{◌≡◌}
use Rattle.witness_pool.specs.Jobs.{txs_of}
use Rattle.witness_pool.proofs.pool.check_share.Given as goal

-- those so far have their verdicts
abbrev pub invariant-loop-job : goal.invariant-loop-job
invariant-loop-job g l = l.checked.items ≡ txs_of l.yielded
