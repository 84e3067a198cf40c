use Rattle.std.proofs.Common.{◌≡◌, ◌∙◌, ap, ℕ, ◌-◌, ◌^◌}
use Rattle.ed25519.specs.Arithmetic.{power}
use Rattle.ed25519.proofs.Powers.{power_product, more_power, root_exponent}
use Rattle.ed25519.proofs.field_element.FieldElement.root_power.Goals as goal

pub returns : goal.returns
returns c =
    let x = c.args.self.now in
    let s252 : c.squared_times.result ≡ power x (2 ^ 252 - 4) =
    power_product _ (2 ^ 250 - 1) 4 _ _ c.long_powers-all_bits.ensures.0 c.squared_times.ensures in
    let last : c.times.result ≡ power x (2 ^ 252 - 3) = more_power _ (2 ^ 252 - 4) _ _ s252 c.times.ensures in
    last ∙ ap (λ (n : ℕ). power x n) root_exponent
