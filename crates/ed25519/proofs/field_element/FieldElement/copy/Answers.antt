use Rattle.ed25519.proofs.Powers.{below_prime}
use Rattle.ed25519.proofs.field_element.FieldElement.copy.Goals as goal

pub returns-clause-below : goal.returns-clause-below
returns-clause-below c = below_prime _ _ c.self.view_is
