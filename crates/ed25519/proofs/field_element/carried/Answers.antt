use Rattle.ed25519.proofs.Products.{cut, carry}
use Rattle.ed25519.proofs.field_element.carried.Goals as goal

pub returns : goal.returns
returns c = carry _ _ _ _ _ _ _ _ _ _ _ _ _ _ _ _ _ (cut _) (cut _) (cut _) (cut _) (cut _) (cut _)
