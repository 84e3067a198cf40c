use Rattle.std.proofs.Common.{◌∙◌, ap}
use Rattle.ed25519.specs.Keys.{pruned}
use Rattle.ed25519.proofs.Words.{pruned_words}
use Rattle.ed25519.proofs.scalar.Scalar.pruned.Goals as goal

pub returns : goal.returns
returns c =
    pruned_words _ _ _ _ c.self.invariant.0 c.self.invariant.1 c.self.invariant.2 ∙ ap pruned c.self.view_is
