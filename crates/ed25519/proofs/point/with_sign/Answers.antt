use Rattle.std.proofs.Common.{◌≡◌, ◌∙◌, ap, ℕ, false, eqb, ◌&&◌, Some, sym}
use Rattle.std.proofs.lemmas.Bool.{eq-eqb}
use Rattle.ed25519.specs.Arithmetic.{minus}
use Rattle.ed25519.proofs.Roots.{sign_none, sign_same, sign_other, left_false, right_false, not_equal}
use Rattle.ed25519.proofs.point.with_sign.Goals as goal
use Rattle.ed25519.proofs.point.with_sign.Goals.{else-sign-eq1-via-then-sign-eq1+else-equals}
use Rattle.ed25519.proofs.point.with_sign.Goals.{else-sign-eq1-via-else-sign-eq1}

pub returns-then-equals : goal.returns-then-equals
returns-then-equals c = sign_none c.args.x c.args.sign (eq-eqb _ _ c.if-sign-eq1.true) (cc)

pub returns-then-lowest_bit-sign : goal.returns-then-lowest_bit-sign
returns-then-lowest_bit-sign c =
    let n : (eqb c.args.sign 1 && eqb c.args.x 0) ≡ false = elim c.else-sign-eq1.branch [
      | else-sign-eq1-via-then-sign-eq1+else-equals w ↦ right_false (eqb c.args.sign 1) (eqb c.args.x 0) (cc)
      | else-sign-eq1-via-else-sign-eq1 w ↦ left_false (eqb c.args.sign 1) (eqb c.args.x 0)
          (not_equal _ _ w.if-sign-eq1.false)
    ] in
    sign_same c.args.x c.args.sign n (eq-eqb _ _ (sym c.lowest_bit.ensures ∙ c.if-lowest_bit-sign.true))

pub returns-else-lowest_bit-sign : goal.returns-else-lowest_bit-sign
returns-else-lowest_bit-sign c =
    let n : (eqb c.args.sign 1 && eqb c.args.x 0) ≡ false = elim c.else-sign-eq1.branch [
      | else-sign-eq1-via-then-sign-eq1+else-equals w ↦ right_false (eqb c.args.sign 1) (eqb c.args.x 0) (cc)
      | else-sign-eq1-via-else-sign-eq1 w ↦ left_false (eqb c.args.sign 1) (eqb c.args.x 0)
          (not_equal _ _ w.if-sign-eq1.false)
    ] in
    let e : c.minus.result ≡ minus 0 c.args.x = cc in
    ap (λ (v : ℕ). Some v) e ∙ sign_other c.args.x c.args.sign n
    (not_equal _ _ (λ k. c.if-lowest_bit-sign.false (c.lowest_bit.ensures ∙ k)))
