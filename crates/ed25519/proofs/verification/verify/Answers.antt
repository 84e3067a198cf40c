use Rattle.std.proofs.Common.{◌≡◌, ◌∙◌, ap, ℕ, List, sym, take, drop}
use Rattle.ed25519.specs.Encoding.{little_endian}
use Rattle.ed25519.specs.Decoding.{decoded}
use Rattle.ed25519.specs.Signing.{challenge}
use Rattle.ed25519.specs.Verifying.{equation_holds, is_admissible, verifies}
use Rattle.ed25519.proofs.Verdicts.{no_key, no_r, refused, all_there}
use Rattle.ed25519.proofs.verification.verify.Goals as goal

pub returns-then-is_admissible : goal.returns-then-is_admissible
unfolding verifies
returns-then-is_admissible c =
    let r : c.halves.result.0 ≡ take 32 c.args.signature.now = c.halves.ensures.0 in
    let s : c.from_bytes-s.result ≡ little_endian (drop 32 c.args.signature.now) =
    c.from_bytes-s.ensures ∙ ap little_endian c.halves.ensures.1 in
    all_there (decoded c.args.key.now) (decoded (take 32 c.args.signature.now))
    (little_endian (drop 32 c.args.signature.now))
    (challenge (take 32 c.args.signature.now) c.args.key.now c.args.message.now) c.in-Some.a c.in-Some-decode.r
    c.equation_holds.result
    (cc) (cc) (ap (λ (n : ℕ). is_admissible c.in-Some.a c.in-Some-decode.r n) (sym s) ∙ sym c.is_admissible.ensures
    ∙ c.if-is_admissible.true)
    (c.equation_holds.ensures ∙ ap (λ (n : ℕ). equation_holds c.in-Some.a c.in-Some-decode.r n c.challenge.result) s
    ∙ ap (λ (n : ℕ). equation_holds c.in-Some.a c.in-Some-decode.r (little_endian (drop 32 c.args.signature.now)) n)
    (c.challenge.ensures.value ∙ ap (λ (m : List ℕ). challenge m c.args.key.now c.args.message.now) r))

pub returns-else-is_admissible : goal.returns-else-is_admissible
unfolding verifies
returns-else-is_admissible c =
    let r : c.halves.result.0 ≡ take 32 c.args.signature.now = c.halves.ensures.0 in
    let s : c.from_bytes-s.result ≡ little_endian (drop 32 c.args.signature.now) =
    c.from_bytes-s.ensures ∙ ap little_endian c.halves.ensures.1 in
    c.if-is_admissible.false ∙ refused (decoded c.args.key.now) (decoded (take 32 c.args.signature.now)) _ _ c.in-Some.a c.in-Some-decode.r
    (cc) (cc) (ap (λ (n : ℕ). is_admissible c.in-Some.a c.in-Some-decode.r n) (sym s) ∙ sym c.is_admissible.ensures
    ∙ c.if-is_admissible.false)

pub returns-in_default-decode : goal.returns-in_default-decode
unfolding verifies
returns-in_default-decode c =
    let r : c.halves.result.0 ≡ take 32 c.args.signature.now = c.halves.ensures.0 in
    no_r (decoded c.args.key.now) (decoded (take 32 c.args.signature.now)) _ _ c.in-Some.a (cc) (cc)

pub returns-in_default : goal.returns-in_default
unfolding verifies
returns-in_default c = no_key (decoded c.args.key.now) _ _ _ (cc)
