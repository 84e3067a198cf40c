use Rattle.std.proofs.Common.{◌≡◌, ◌≢◌, List, [], length, map}
use Rattle.witness_pool.specs.Dealing.{all_dealt}
use Rattle.witness_pool.proofs.Turns.{IsGathering}
use Rattle.witness_pool.proofs.dealing.gather.Given as goal

abbrev pub invariant-loop : goal.invariant-loop
invariant-loop g l = (xs : List _) (start : List (List _)) → start ≢ [] → length xs ≡ l.fn.count → map (λ s. s.items) l.fn.shares.items ≡ all_dealt xs start
    → IsGathering xs start (map (λ s. s.items) l.shares.items) l.all.items l.fn.count l.counter
