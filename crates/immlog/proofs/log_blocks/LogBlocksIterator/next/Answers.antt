use Rattle.std.proofs.Common.{◌+◌, ◌<◌, length, subst, ap, sym, arith}
use Rattle.std.specs.Prelude.{Option}
use Rattle.immlog.specs.LogBlocks.{GivesBlock}
use Rattle.immlog.proofs.OneByOne.{given_at}
use Rattle.immlog.proofs.log_blocks.LogBlocksIterator.next.Goals as goal

pub returns-clause-steps : goal.returns-clause-steps
returns-clause-steps g c =
    let old = c.args.self.now in
    let count = c.durable.ensures.count in
    let test = c.if-self-durable.false in
    let more : old.passed < length old.log.blocks = omega (arith, count, test) in
    subst (λ o. GivesBlock g.D.Disk.keeps old o (record { log = c.block.new.self; passed = old.passed + 1 })) (sym c.transpose.ensures)
    (given_at g.D.Disk.keeps old c.block.new.self c.block.ensures.blocks more (old.passed + 1) (omega arith) c.block.result c.block.ensures.like c.block.ensures.exact c.block.ensures.damaged)
