use Rattle.std.proofs.Common.{◌<◌, ◌+◌, ◌*◌, ◌^◌, ◌∙◌, ap, ℕ}
use Rattle.ed25519.specs.Inside.{words}
use Rattle.ed25519.proofs.Words.{topped_words}
use Rattle.ed25519.proofs.scalar.Scalar.with_top_bit.Goals as goal

pub returns : goal.returns
returns c =
    let b : words c.self.inside.w0 c.self.inside.w1 c.self.inside.w2 c.self.inside.w3 < 2 ^ 255 =
    rw c.self.view_is c.requires.0 in
    topped_words _ _ _ _ _ b ∙ ap (λ (n : ℕ). n + 2 ^ 255 * c.args.bit) c.self.view_is
