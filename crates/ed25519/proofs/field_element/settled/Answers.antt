use Rattle.ed25519.proofs.Products.{cut, carry_once}
use Rattle.ed25519.proofs.field_element.settled.Goals as goal

pub returns : goal.returns
returns c = carry_once _ _ _ _ _ _ _ _ _ _ _ _ _ _ _ (cut _) (cut _) (cut _) (cut _) (cut _)
