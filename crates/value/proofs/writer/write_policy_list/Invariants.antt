-- What was written and what is still to write is the whole, and no room was lost.
use Rattle.std.proofs.Common.{◌≤◌}
use Rattle.std.specs.Prelude.{vec_capacity}
use Rattle.model.specs.Value.{entry_of_policy}
use Rattle.value.specs.View.{policy_of}
use Rattle.cbor.proofs.ForCallers.{IsPartWritten}
use Rattle.value.proofs.writer.write_policy_list.Given as goal

abbrev pub invariant-loop-policy : goal.invariant-loop-policy
invariant-loop-policy g l = IsPartWritten (λ x. entry_of_policy g.Q.Quantity.item_of (policy_of x)) l.initial.out.items l.out.items l.policies l.policy-index × (vec_capacity l.initial.out ≤ vec_capacity l.out)
