use Rattle.std.proofs.Common.{◌≡◌}
use Rattle.model.specs.Block.{block_text}
use Rattle.model.proofs.BlockTexts.{block_text_is}
use Rattle.block.proofs.block.Block.has_text.Goals as goal

pub returns : goal.returns
returns c =
    let mine : block_text c.args.self.now ≡ c.bytes.result.now = block_text_is c.args.self.now c.bytes.result.now c.bytes.ensures.read in
    rw mine c.same_bytes.ensures
