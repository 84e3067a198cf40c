use Rattle.std.proofs.Common.{rules, arith}
use Rattle.std.proofs.Output.{has_written_append, has_written_of_eq}
use Rattle.ident.proofs.HexTexts.{no_digits, one_more_byte}
use Rattle.ident.proofs.hex_text.HexDisplay.fmt.Goals as goal

pub loop-byte-init : goal.loop-byte-init
loop-byte-init g c = λ p. has_written_of_eq _ _ _ _ _ (no_digits c.args.self.now.0.now) (search rules)

pub loop-byte-preserved : goal.loop-byte-preserved
loop-byte-preserved g c =
    λ p. has_written_of_eq _ _ _ _ _ (one_more_byte c.args.self.now.0.now c.loop-byte.byte-index (omega arith) (omega arith))
    (has_written_append _ _ _ _ _ _ (c.loop-byte.invariant p) (search rules))
