use Rattle.std.proofs.Common.{sym, ◌∙◌, arith}
use Rattle.conversing.proofs.DigitLaws.{stops_behind, all_read}
use Rattle.conversing.proofs.numbers.number_from.Goals as goal

pub returns-in_err-checked_mul : goal.returns-in_err-checked_mul
returns-in_err-checked_mul c = c.from_residual.ensures ∙ sym (c.loop-digit.invariant.0 ∙ stops_behind c.loop-digit.number c.loop-digit.digit-index c.args.digits.now c.loop-digit-test.true (sym c.is_digit.ensures ∙ c.if-not-is_digit.false) (omega (arith, c.in_err-checked_mul.ensures)))

pub returns-in_err-number : goal.returns-in_err-number
returns-in_err-number c = c.from_residual-in_err-number.ensures ∙ sym (c.loop-digit.invariant.0 ∙ stops_behind c.loop-digit.number c.loop-digit.digit-index c.args.digits.now c.loop-digit-test.true (sym c.is_digit.ensures ∙ c.if-not-is_digit.false) (omega (arith, c.in_err-number.ensures, c.in_ok-checked_mul.ensures)))

pub returns : goal.returns
returns c = sym (c.loop-digit.invariant.0 ∙ all_read c.loop-digit.number c.loop-digit.digit-index c.args.digits.now c.loop-digit-test.false c.loop-digit.invariant.1)
