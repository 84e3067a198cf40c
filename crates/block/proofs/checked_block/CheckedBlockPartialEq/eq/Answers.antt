use Rattle.block.proofs.OneAnswer.{same_blocks}
use Rattle.block.proofs.checked_block.CheckedBlockPartialEq.eq.Goals as goal

pub returns-clause-exact : goal.returns-clause-exact
returns-clause-exact g c = (same_blocks c.args.self.now c.args.other.now c.bytes.result.now c.bytes-2.result.now c.eq.result c.bytes.ensures c.bytes-2.ensures c.eq.ensures).0

pub returns-clause-same : goal.returns-clause-same
returns-clause-same g c = (same_blocks c.args.self.now c.args.other.now c.bytes.result.now c.bytes-2.result.now c.eq.result c.bytes.ensures c.bytes-2.ensures c.eq.ensures).1
