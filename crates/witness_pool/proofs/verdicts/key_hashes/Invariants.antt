-- The hashes that were made and those still to be made are the whole.
use Rattle.model.specs.Transaction.{key_hash_of}
use Rattle.timelock.specs.View.{key_bytes}
use Rattle.tx.specs.View.{witness_of}
use Rattle.witness_pool.proofs.Loops.{IsPartMade}
use Rattle.witness_pool.proofs.verdicts.key_hashes.Given as goal

abbrev pub invariant-loop-witness : goal.invariant-loop-witness
invariant-loop-witness l = IsPartMade key_bytes witness_of (λ w. key_hash_of w.key) l.hashes.items l.signatures l.witness-index
