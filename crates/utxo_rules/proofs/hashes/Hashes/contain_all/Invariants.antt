-- Those that are left decide for all.
use Rattle.model.specs.Rules.{is_among}
use Rattle.std.specs.Prelude.{ℕ, List}
use Rattle.utxo_rules.proofs.Asks.{DecideForAll}
use Rattle.utxo_rules.proofs.hashes.Hashes.contain_all.Given as goal

abbrev pub invariant-loop-hash : goal.invariant-loop-hash
invariant-loop-hash l = DecideForAll (λ (hash : List ℕ). hash) (is_among l.self.sorted.items) l.hashes l.hash-index
