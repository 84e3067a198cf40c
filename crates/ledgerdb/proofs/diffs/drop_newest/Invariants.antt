use Rattle.std.proofs.Common.{◌≡◌, ◌-◌, length, take}
use Rattle.ledgerdb.proofs.diffs.drop_newest.Given as goal

-- the oldest ones are left
abbrev pub invariant-loop : goal.invariant-loop
invariant-loop l = l.diffs ≡ take (length l.fn.diffs - l.counter) l.fn.diffs
