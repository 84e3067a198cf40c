use Rattle.ed25519.proofs.Digits.{equal_digits}
use Rattle.ed25519.proofs.field_element.FieldElement.equals.Goals as goal

pub returns : goal.returns
returns c = equal_digits _ _ _ _ _ _ _ _ _ _ _ _ c.digits-a.ensures.value c.digits-b.ensures.value
    c.digits-a.ensures.small c.digits-b.ensures.small
