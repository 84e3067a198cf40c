use Rattle.std.proofs.Common.{◌≡◌, [], map, replicate}
use Rattle.witness_pool.specs.Dealing.{all_dealt}
use Rattle.witness_pool.proofs.dealing.deal.Given as goal

-- the items so far are dealt
abbrev pub invariant-loop-item : goal.invariant-loop-item
invariant-loop-item g l = map (λ s. s.items) l.shares.items ≡ all_dealt l.yielded (replicate l.fn.count [])
