use Rattle.std.proofs.Common.{◌∙◌}
use Rattle.ed25519.proofs.Products.{product}
use Rattle.ed25519.proofs.field_element.FieldElement.times.Goals as goal

pub returns : goal.returns
returns c = rw (← c.self.view_is, ← c.other.view_is) (c.carried.ensures ∙ product _ _ _ _ _ _ _ _ _ _)
