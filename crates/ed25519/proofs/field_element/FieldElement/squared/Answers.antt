use Rattle.std.proofs.Common.{◌∙◌}
use Rattle.ed25519.proofs.Products.{square}
use Rattle.ed25519.proofs.field_element.FieldElement.squared.Goals as goal

pub returns : goal.returns
returns c = rw (← c.self.view_is) (c.carried.ensures ∙ square _ _ _ _ _)
