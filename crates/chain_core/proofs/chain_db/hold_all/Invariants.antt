use Rattle.std.proofs.Common.{◌≡◌}
use Rattle.chain_core.proofs.chain_db.hold_all.Given as goal

-- nothing that is seen has changed
abbrev pub invariant-loop-block : goal.invariant-loop-block
invariant-loop-block g l = l.store ≡ l.fn.store
