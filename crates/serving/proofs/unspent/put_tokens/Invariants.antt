-- What was appended, and the assets that are still to come, are the whole.
use Rattle.std.proofs.Common.{◌≡◌, ◌++◌, drop, map}
use Rattle.value.specs.Parts.{assets_under}
use Rattle.value.specs.View.{token_of}
use Rattle.serving.specs.UtxoTelling.{asset_told}
use Rattle.serving.proofs.unspent.put_tokens.Given as goal

abbrev pub invariant-loop-token : goal.invariant-loop-token
invariant-loop-token l =
    map asset_told l.assets.items ++ assets_under l.policy.bytes (map token_of (drop l.token-index l.tokens))
    ≡ map asset_told l.initial.assets.items ++ assets_under l.policy.bytes (map token_of l.tokens)
