use Rattle.block.proofs.Kept.{empty_by_size}
use Rattle.block.proofs.block.Block.is_empty.Goals as goal

pub returns : goal.returns
returns c = empty_by_size c.body_size.result c.args.self.now c.body_size.ensures
