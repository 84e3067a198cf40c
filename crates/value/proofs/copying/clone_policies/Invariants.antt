-- The copies that were made and what is still to copy are the whole.
use Rattle.value.specs.View.{policy_of}
use Rattle.value.proofs.Copies.{IsPartCopied}
use Rattle.value.proofs.copying.clone_policies.Given as goal

abbrev pub invariant-loop-policy : goal.invariant-loop-policy
invariant-loop-policy g l = IsPartCopied policy_of l.copies.items l.policies l.policy-index
