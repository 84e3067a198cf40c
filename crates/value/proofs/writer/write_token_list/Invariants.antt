-- What was written and what is still to write is the whole, and no room was lost.
use Rattle.std.proofs.Common.{◌≤◌}
use Rattle.std.specs.Prelude.{vec_capacity}
use Rattle.model.specs.Value.{entry_of_token}
use Rattle.value.specs.View.{token_of}
use Rattle.cbor.proofs.ForCallers.{IsPartWritten}
use Rattle.value.proofs.writer.write_token_list.Given as goal

abbrev pub invariant-loop-token : goal.invariant-loop-token
invariant-loop-token g l = IsPartWritten (λ x. entry_of_token g.Q.Quantity.item_of (token_of x)) l.initial.out.items l.out.items l.tokens l.token-index × (vec_capacity l.initial.out ≤ vec_capacity l.out)
