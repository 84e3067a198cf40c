-- What was appended, and the lines of the policies that are still to come, are the whole.
use Rattle.std.proofs.Common.{◌≡◌, ◌++◌, drop, map}
use Rattle.std.specs.Prelude.{string_bytes}
use Rattle.value.specs.View.{policy_of}
use Rattle.showing.specs.Values.{lines_of_assets}
use Rattle.showing.proofs.values.put_assets.Given as goal

abbrev pub invariant-loop-policy : goal.invariant-loop-policy
invariant-loop-policy g l =
    string_bytes l.out ++ lines_of_assets g.Q.Amount.whole l.margin l.word (map policy_of (drop l.policy-index l.policies))
    ≡ string_bytes l.initial.out ++ lines_of_assets g.Q.Amount.whole l.margin l.word (map policy_of l.policies)
