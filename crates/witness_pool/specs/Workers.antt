-- How many workers a pool may have.
use Rattle.std.specs.Prelude.{ℕ, ◌≤◌}
use Rattle.witness_pool.specs.declared.pool_fault.PoolFault.{PoolFault}
use Rattle.witness_pool.specs.declared.pool_fault.PoolFault.TheVariants.{BadWorkers, OutOfMemory}

abbrev pub AreWorkers : ℕ → Type 0
AreWorkers n = (1 ≤ n) × (n ≤ 16)

-- when each fault comes: there are too few or too many; or there aren't, and memory ran out
abbrev pub IsPoolFault : ℕ → PoolFault → Type 0
IsPoolFault workers BadWorkers = AreWorkers workers → ⊥
IsPoolFault workers OutOfMemory = AreWorkers workers
