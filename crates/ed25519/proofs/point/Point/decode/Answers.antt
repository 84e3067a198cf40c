use Rattle.std.proofs.Common.{◌≡◌, ◌∙◌, ap, ℕ, sym, ◌%◌, ◌/◌, ◌^◌, Some, None, refl}
use Rattle.ed25519.specs.Arithmetic.{prime}
use Rattle.ed25519.specs.declared.point.Point.{Point}
use Rattle.ed25519.proofs.Words.{top_bit}
use Rattle.ed25519.proofs.Roots.{decoded_none, decoded_some}
use Rattle.ed25519.proofs.point.Point.decode.Goals as goal

pub returns-else-is_below_prime : goal.returns-else-is_below_prime
returns-else-is_below_prime c =
    decoded_none c.args.bytes.now c.from_bytes-number.result c.from_bytes-number.ensures (sym c.is_below_prime.ensures
    ∙ c.if-is_below_prime.false)

pub returns-in-Some : goal.returns-in-Some
returns-in-Some c =
    let p = c.parts-w0.ensures in
    let y : c.from_words-y.result ≡ c.from_bytes-number.result % 2 ^ 255 % prime =
    c.from_words-y.ensures ∙ ap (λ (n : ℕ). n % 2 ^ 255 % prime) (sym p.value) in
    let s : c.parts-w0.result.3 / 2 ^ 63 ≡ c.from_bytes-number.result / 2 ^ 255 =
    sym (ap (λ (n : ℕ). n / 2 ^ 255) p.value ∙ top_bit _ _ _ _ p.sizes.0 p.sizes.1 p.sizes.2) in
    decoded_some c.args.bytes.now c.from_bytes-number.result c.from_words-y.result (c.parts-w0.result.3 / 2 ^ 63)
    (Some c.in-Some.x) _
    c.from_bytes-number.ensures (sym c.is_below_prime.ensures ∙ c.if-is_below_prime.true) y s (cc)
    (ap (λ (v : Point). Some v) c.at.ensures)

pub returns-in-None : goal.returns-in-None
returns-in-None c =
    let p = c.parts-w0.ensures in
    let y : c.from_words-y.result ≡ c.from_bytes-number.result % 2 ^ 255 % prime =
    c.from_words-y.ensures ∙ ap (λ (n : ℕ). n % 2 ^ 255 % prime) (sym p.value) in
    let s : c.parts-w0.result.3 / 2 ^ 63 ≡ c.from_bytes-number.result / 2 ^ 255 =
    sym (ap (λ (n : ℕ). n / 2 ^ 255) p.value ∙ top_bit _ _ _ _ p.sizes.0 p.sizes.1 p.sizes.2) in
    decoded_some c.args.bytes.now c.from_bytes-number.result c.from_words-y.result (c.parts-w0.result.3 / 2 ^ 63) None
    None
    c.from_bytes-number.ensures (sym c.is_below_prime.ensures ∙ c.if-is_below_prime.true) y s (cc) refl
