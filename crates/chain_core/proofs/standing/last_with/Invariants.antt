use Rattle.std.proofs.Common.{◌≤◌, length, drop}
use Rattle.std.specs.List.{AllByRecursion}
use Rattle.model.specs.Asked.{NoTxHas}
use Rattle.chain_core.proofs.standing.last_with.Given as goal

-- none of the blocks from this place on
abbrev pub invariant-loop-place : goal.invariant-loop-place
invariant-loop-place g l = record {
  within : l.place ≤ length l.chain;
  none : AllByRecursion (λ b. NoTxHas b.transactions l.id.bytes) (drop l.place l.chain);
}
