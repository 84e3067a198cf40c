use Rattle.ed25519.specs.Arithmetic.{prime}
use Rattle.ed25519.specs.Inside.{limbs}
use Rattle.ed25519.proofs.field_element.FieldElement.one.Goals as goal

pub returns : goal.returns
unfolding prime limbs
returns c = c.from_digits.ensures
