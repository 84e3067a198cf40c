-- What was appended, and the lines of the assets that are still to come, are the whole.
use Rattle.std.proofs.Common.{◌≡◌, ◌++◌, drop, map}
use Rattle.std.specs.Prelude.{flat_map, string_bytes}
use Rattle.value.specs.View.{token_of}
use Rattle.showing.specs.Values.{asset_line}
use Rattle.showing.proofs.values.put_tokens.Given as goal

abbrev pub invariant-loop-token : goal.invariant-loop-token
invariant-loop-token g l =
    string_bytes l.out ++ flat_map (asset_line g.Q.Amount.whole l.margin l.word l.policy.bytes) (map token_of (drop l.token-index l.tokens))
    ≡ string_bytes l.initial.out ++ flat_map (asset_line g.Q.Amount.whole l.margin l.word l.policy.bytes) (map token_of l.tokens)
