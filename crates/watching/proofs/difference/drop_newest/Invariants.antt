use Rattle.std.proofs.Common.{◌≡◌, drop}
use Rattle.watching.proofs.difference.drop_newest.Given as goal

-- the older ones are left
abbrev pub invariant-loop : goal.invariant-loop
invariant-loop l = l.differences ≡ drop l.counter l.fn.differences
