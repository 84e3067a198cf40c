use Rattle.std.proofs.Common.{map, drop}
use Rattle.value.specs.View.{token_of}
use Rattle.value.proofs.Tidying.{Tidied}
use Rattle.value.proofs.amounts.Amounts.tidy.Given as goal

abbrev pub invariant-loop-token : goal.invariant-loop-token
invariant-loop-token g l = Tidied l.fn.self l.self (map token_of l.tokens) (map token_of (drop l.token-index l.tokens))
