use Rattle.std.proofs.Common.{◌≡◌, ◌≢◌, ◌%◌, true, false, [], length, rules, refl, sym, arith}
use Rattle.std.specs.List.{list_all}
use Rattle.hex.specs.Hex.{is_hex_digit}
use Rattle.script.proofs.HexDigits.{no_other, some_bytes}
use Rattle.script.proofs.digits.Digits.of_word.Goals as goal

pub returns-then-not-are_hex_digits : goal.returns-then-not-are_hex_digits
returns-then-not-are_hex_digits c =
    let other : list_all is_hex_digit c.args.word.now ≡ false = search (rules, c.are_hex_digits.ensures, c.if-not-are_hex_digits.true) in
    sym (no_other c.args.word.now other)

pub invariant_of-result : goal.invariant_of-result
invariant_of-result c =
    let some : c.args.word.now ≢ [] = search (rules, c.is_empty.ensures, c.if-is_empty.false) in
    let even : length c.args.word.now % 2 ≡ 0 = omega (arith, c.if-word-eq1.false) in
    let all : list_all is_hex_digit c.args.word.now ≡ true = search (rules, c.are_hex_digits.ensures, c.if-not-are_hex_digits.false) in
    record { says = rw (some_bytes c.args.word.now some even all) refl }
