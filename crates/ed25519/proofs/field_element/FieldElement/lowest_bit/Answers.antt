use Rattle.std.proofs.Common.{◌∙◌, ◌%◌, ℕ, ap}
use Rattle.ed25519.proofs.Digits.{lowest}
use Rattle.ed25519.proofs.field_element.FieldElement.lowest_bit.Goals as goal

pub returns : goal.returns
returns c = lowest c.digits.result.0 c.digits.result.1 c.digits.result.2 c.digits.result.3 c.digits.result.4
    ∙ ap (λ (n : ℕ). n % 2) c.digits.ensures.value
