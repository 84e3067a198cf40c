use Rattle.std.proofs.Common.{◌∙◌, arith}
use Rattle.ed25519.proofs.Products.{gap}
use Rattle.ed25519.proofs.field_element.FieldElement.minus.Goals as goal

pub returns : goal.returns
returns c = rw (← c.self.view_is, ← c.other.view_is)
    (c.settled.ensures ∙ gap _ _ _ _ _ _ _ _ _ _ _ _ _ _ _ (omega arith) (omega arith) (omega arith) (omega arith)
    (omega arith))
