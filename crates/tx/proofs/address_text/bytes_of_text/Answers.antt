use Rattle.std.proofs.Common.{refl}
use Rattle.ident.proofs.ForCallers.{no_want_of_memory, another_length}
use Rattle.tx.proofs.address_text.bytes_of_text.Goals as goal

pub unreachable-requires : goal.unreachable-requires
unreachable-requires c = no_want_of_memory c.args.text.now 33 (let e = c.from_hex.ensures in let is = c.in-Err-OutOfMemory.is in let was = c.in-Err-OutOfMemory.field-0-is in cc)

pub returns-in-Err-InvalidStringLength : goal.returns-in-Err-InvalidStringLength
returns-in-Err-InvalidStringLength c =
    let other = another_length c.args.text.now 33 (let e = c.from_hex.ensures in let is = c.in-Err-InvalidStringLength.is in let was = c.in-Err-InvalidStringLength.field-0-is in cc) in
    rw (other.0, other.1) refl
