use Rattle.witness_pool.proofs.Numbers.{AreNumbered}
use Rattle.witness_pool.proofs.pool.numbered.Given as goal

-- those so far are numbered
abbrev pub invariant-loop-tx : goal.invariant-loop-tx
invariant-loop-tx l = AreNumbered l.jobs.items l.yielded
