use Rattle.std.proofs.Common.{refl}
use Rattle.immlog.proofs.Looking.{length_told}
use Rattle.immlog.proofs.part.told_length.Goals as goal

pub returns-then-is_block_size : goal.returns-then-is_block_size
returns-then-is_block_size c =
    let a = c.in_ok-size.ensures.cases in
    let size = c.if-is_block_size.ensures.0 refl in
    length_told c.args.bytes.now c.in_ok-size.size.now c.in_ok-size.field-0-1.now c.from_be_bytes-len.result a.0 a.1 a.2 (λ i. (c.type_inv.bytes i).fits) c.from_be_bytes-len.ensures size.0 size.1
