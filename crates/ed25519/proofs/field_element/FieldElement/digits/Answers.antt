use Rattle.std.proofs.Common.{◌∙◌}
use Rattle.ed25519.proofs.Products.{cut}
use Rattle.ed25519.proofs.Digits.{least, cut_below}
use Rattle.ed25519.proofs.field_element.FieldElement.digits.Goals as goal

pub returns-clause-value : goal.returns-clause-value
returns-clause-value c =
    least _ _ _ _ _ _ _ _ _ _ _ _ _ _ _ _ _ _ _ _ _ _ _ _ _ c.self.invariant
    (cut _) (cut_below _) (cut _) (cut_below _) (cut _) (cut_below _) (cut _) (cut_below _) (cut _) (cut_below _)
    (cut _) (cut _) (cut _) (cut _) (cut _) (cut_below _) (cut_below _) (cut_below _) (cut_below _) (cut_below _)
    ∙ c.self.view_is
