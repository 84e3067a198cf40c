-- Those that were seen are among them.
use Rattle.std.specs.Prelude.{ℕ, List}
use Rattle.model.specs.Rules.{is_among}
use Rattle.utxo_rules.proofs.Finding.{PassBefore}
use Rattle.utxo_rules.proofs.hashes.Hashes.first_missing.Given as goal

abbrev pub invariant-loop-hash : goal.invariant-loop-hash
invariant-loop-hash l = PassBefore (λ (hash : List ℕ). hash) (is_among l.self.sorted.items) l.hashes l.hash-index
