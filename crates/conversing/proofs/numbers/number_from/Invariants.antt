use Rattle.std.proofs.Common.{◌≡◌, ◌<◌, ◌^◌, drop}
use Rattle.conversing.specs.Numbers.{number_from}
use Rattle.conversing.proofs.numbers.number_from.Given as goal

-- the digits so far say the number
abbrev pub invariant-loop-digit : goal.invariant-loop-digit
invariant-loop-digit l = (number_from 0 l.digits ≡ number_from l.number (drop l.digit-index l.digits)) × (l.number < 2 ^ 64)
