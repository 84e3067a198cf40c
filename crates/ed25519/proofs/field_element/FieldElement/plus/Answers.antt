use Rattle.std.proofs.Common.{◌∙◌}
use Rattle.ed25519.proofs.Products.{total}
use Rattle.ed25519.proofs.field_element.FieldElement.plus.Goals as goal

pub returns : goal.returns
returns c = rw (← c.self.view_is, ← c.other.view_is) (c.settled.ensures ∙ total _ _ _ _ _ _ _ _ _ _)
