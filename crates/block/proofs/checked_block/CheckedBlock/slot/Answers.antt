use Rattle.std.proofs.Common.{arith}
use Rattle.block.proofs.checked_block.CheckedBlock.slot.Goals as goal

pub returns-clause-small : goal.returns-clause-small
returns-clause-small g c =
    let small = c.self.invariant.read.read.shape.header.slot in
    omega (arith, small, c.slot.ensures)
