-- With those that are still to be put in it has all.
use Rattle.watching.proofs.Choosing.{ArePartHeld}
use Rattle.watching.proofs.which.Which.policies.Given as goal

abbrev pub invariant-loop-policy : goal.invariant-loop-policy
invariant-loop-policy l = ArePartHeld (λ h. h.bytes) (λ p. p.bytes) l.policies l.hashes.keys l.policy-index
