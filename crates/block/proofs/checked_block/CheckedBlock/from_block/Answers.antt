use Rattle.std.proofs.Common.{subst}
use Rattle.cbor.specs.Gives.{Refuses}
use Rattle.cbor.specs.declared.fault.CborFault.{CborFault}
use Rattle.cbor.specs.declared.fault.CborFault.TheVariants as faults
use Rattle.block.specs.Reading.{block_at}
use Rattle.block.proofs.Blocks.{no_block}
use Rattle.block.proofs.checked_block.CheckedBlock.from_block.Goals as goal

-- the text of a block is read as one
pub unreachable-requires : goal.unreachable-requires
unreachable-requires g c =
    let none : Refuses faults.Malformed (block_at c.bytes.result.now) = subst (λ (f : CborFault). Refuses f (block_at c.bytes.result.now)) c.in-Err-Malformed.field-0-is c.in-Err-Malformed.ensures.exact in
    no_block c.bytes.result.now none c.args.block.now c.bytes.ensures.read
