use Rattle.std.proofs.Common.{◌≡◌, ◌∙◌, ap, ℕ, ◌-◌, ◌^◌}
use Rattle.ed25519.specs.Arithmetic.{power}
use Rattle.ed25519.proofs.Powers.{power_sum, power_product, inverse_exponent}
use Rattle.ed25519.proofs.field_element.FieldElement.inverse.Goals as goal

pub returns : goal.returns
returns c =
    let x = c.args.self.now in
    let s255 : c.squared_times.result ≡ power x (2 ^ 255 - 32) =
    power_product _ (2 ^ 250 - 1) 32 _ _ c.long_powers-all_bits.ensures.0 c.squared_times.ensures in
    let last : c.times.result ≡ power x (2 ^ 255 - 21) = power_sum _ (2 ^ 255 - 32) 11 _ _ _ s255
    c.long_powers-all_bits.ensures.1 c.times.ensures in
    last ∙ ap (λ (n : ℕ). power x n) inverse_exponent
