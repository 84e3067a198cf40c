-- What is gathered and what is still to be gathered are the whole.
use Rattle.std.specs.Prelude.{ℤ}
use Rattle.value.specs.declared.assets.Policy.{Policy}
use Rattle.utxo_rules.proofs.Gathered.{IsGathered}
use Rattle.utxo_rules.proofs.witnesses.with_policies.Given as goal

abbrev pub invariant-loop-policy : goal.invariant-loop-policy
invariant-loop-policy l = IsGathered (λ (policy : Policy ℤ). policy.id.bytes) l.fn.hashes.items l.all.items l.policies l.policy-index
