use Rattle.std.proofs.Common.{◌≡◌, ◌+◌, ◌*◌, ◌%◌}
use Rattle.ed25519.specs.Points.{order}
use Rattle.ed25519.specs.Signing.{commitment, signature}
use Rattle.ed25519.proofs.Words.{response}
use Rattle.ed25519.proofs.secret_key.SecretKey.sign.Goals as goal

pub returns : goal.returns
unfolding signature commitment
returns c =
    let s : c.plus.result ≡ (c.nonce-r.result + c.challenge-k.result * c.self.inside.scalar) % order =
    response _ _ _ _ _ c.times.ensures.value c.plus.ensures.value in
    cc
