use Rattle.immlog.proofs.Looking.{record_here}
use Rattle.immlog.proofs.part.whole_record.Goals as goal

pub returns : goal.returns
returns c = record_here c.args.bytes.now _ c.in_ok-block.block.now c.in_ok-block.ensures.frame c.in_ok-block.ensures.same
