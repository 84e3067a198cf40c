-- What was appended, and the assets that are still to come, are the whole.
use Rattle.std.proofs.Common.{◌≡◌, ◌++◌, drop, map}
use Rattle.serde_json.specs.View.{view}
use Rattle.value.specs.View.{token_of}
use Rattle.describing.specs.Values.{json_of_asset}
use Rattle.describing.proofs.values.put_tokens.Given as goal

abbrev pub invariant-loop-token : goal.invariant-loop-token
invariant-loop-token g l =
    map view l.list.items ++ map (json_of_asset g.Q.Amount.whole l.policy.bytes) (map token_of (drop l.token-index l.tokens))
    ≡ map view l.initial.list.items ++ map (json_of_asset g.Q.Amount.whole l.policy.bytes) (map token_of l.tokens)
