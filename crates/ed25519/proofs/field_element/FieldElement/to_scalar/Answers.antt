use Rattle.std.proofs.Common.{◌∙◌}
use Rattle.ed25519.proofs.Words.{joined_digits}
use Rattle.ed25519.proofs.field_element.FieldElement.to_scalar.Goals as goal

pub returns : goal.returns
returns c = c.from_words.ensures ∙ joined_digits _ _ _ _ _ ∙ c.digits-a.ensures.value
