use Rattle.std.proofs.Common.{◌≡◌, ◌∙◌, ap, ℕ, List, ◌%◌, ◌++◌}
use Rattle.sha2.specs.Sha512.{sha512}
use Rattle.ed25519.specs.Points.{order}
use Rattle.ed25519.specs.Encoding.{little_endian}
use Rattle.ed25519.specs.Signing.{nonce, secret_prefix}
use Rattle.ed25519.proofs.secret_key.SecretKey.nonce.Goals as goal

pub returns-clause-value : goal.returns-clause-value
unfolding nonce
returns-clause-value c =
    let d = c.finalize-digest.ensures _ (c.update-2.ensures _ (c.update.ensures _ c.new-hasher.ensures)) in
    let p : c.as_slice.result.now ≡ secret_prefix c.args.self.now = cc in
    c.reduced.ensures.value ∙ ap (λ (m : List ℕ). little_endian m % order) d
    ∙ ap (λ (m : List ℕ). little_endian (sha512 (m ++ c.args.message.now)) % order) p
