use Rattle.std.proofs.Common.{ℕ, ◌∙◌, ap, sym}
use Rattle.ed25519.specs.Points.{multiple}
use Rattle.ed25519.proofs.Multiples.{four_words}
use Rattle.ed25519.proofs.point.Point.multiple.Goals as goal

pub returns : goal.returns
returns c =
    let p = c.args.self.now in
    let table = c.small_multiples-multiples.ensures in
    c.to_point.ensures
    ∙ four_words _ _ _ _ _ _ c.neutral.ensures _ _ _ _ (c.through_word-sum.ensures p table)
    (c.through_word-sum-2.ensures p table) (c.through_word-sum-3.ensures p table) (c.through_word.ensures p table)
    ∙ ap (λ (n : ℕ). multiple 64 n p) (sym c.parts-w0.ensures.value)
