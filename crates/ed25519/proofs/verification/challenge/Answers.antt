use Rattle.std.proofs.Common.{◌≡◌, ◌∙◌, ap, ℕ, List, ◌%◌, ◌++◌}
use Rattle.sha2.specs.Sha512.{sha512}
use Rattle.ed25519.specs.Points.{order}
use Rattle.ed25519.specs.Encoding.{little_endian}
use Rattle.ed25519.specs.Signing.{challenge}
use Rattle.ed25519.proofs.verification.challenge.Goals as goal

pub returns-clause-value : goal.returns-clause-value
unfolding challenge
returns-clause-value c =
    let d = c.finalize-digest.ensures _ (c.update-3.ensures _
    (c.update-2.ensures _ (c.update.ensures _ c.new-hasher.ensures))) in
    let r : c.as_slice.result.now ≡ c.args.r.now = cc in
    let k : c.as_slice-2.result.now ≡ c.args.key.now = cc in
    c.reduced.ensures.value ∙ ap (λ (m : List ℕ). little_endian m % order) d
    ∙ ap (λ (m : List ℕ). little_endian (sha512 ((m ++ c.as_slice-2.result.now) ++ c.args.message.now)) % order) r
    ∙ ap (λ (m : List ℕ). little_endian (sha512 ((c.args.r.now ++ m) ++ c.args.message.now)) % order) k
