use Rattle.std.proofs.Common.{◌≡◌, [], map, replicate}
use Rattle.witness_pool.proofs.dealing.no_shares.Given as goal

-- `counter` shares are there
abbrev pub invariant-loop : goal.invariant-loop
invariant-loop g l = map (λ s. s.items) l.shares.items ≡ replicate l.counter []
