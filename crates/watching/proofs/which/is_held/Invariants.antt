-- None of those that were looked at is one of them.
use Rattle.watching.specs.Owned.{owner_cmp}
use Rattle.watching.proofs.Choosing.{ArePartSeen}
use Rattle.std.specs.FinSet as set
use Rattle.std.proofs.Common.{map}
use Rattle.watching.proofs.which.is_held.Given as goal

abbrev pub invariant-loop-policy : goal.invariant-loop-policy
invariant-loop-policy l = ArePartSeen (λ p. set.contains (set.from_list {R = owner_cmp} (map (λ k. k.bytes) l.policies.keys)) p.id.bytes) l.policy-items l.policy-index
