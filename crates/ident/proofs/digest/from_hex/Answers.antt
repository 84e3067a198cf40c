use Rattle.std.proofs.Common.{sym}
use Rattle.ident.proofs.HexTexts.{no_want_of_memory, wrong_length}
use Rattle.ident.proofs.digest.from_hex.Goals as goal

pub unreachable-requires : goal.unreachable-requires
unreachable-requires c = no_want_of_memory c.args.text.now 32 (let e = c.from_hex.ensures in let is = c.in-Err-OutOfMemory.is in let was = c.in-Err-OutOfMemory.field-0-is in cc)

pub returns-in-Err-InvalidStringLength : goal.returns-in-Err-InvalidStringLength
returns-in-Err-InvalidStringLength c = sym (wrong_length c.args.text.now (let e = c.from_hex.ensures in let is = c.in-Err-InvalidStringLength.is in let was = c.in-Err-InvalidStringLength.field-0-is in cc))
