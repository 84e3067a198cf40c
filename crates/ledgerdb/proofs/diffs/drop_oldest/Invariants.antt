use Rattle.std.proofs.Common.{◌≡◌, drop}
use Rattle.ledgerdb.proofs.diffs.drop_oldest.Given as goal

-- the newest ones are left
abbrev pub invariant-loop : goal.invariant-loop
invariant-loop g l = l.items ≡ drop l.counter l.fn.items
