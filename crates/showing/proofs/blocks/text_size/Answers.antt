use Rattle.std.proofs.Common.{ℕ, List, length, ap, arith}
use Rattle.model.proofs.BlockTexts.{block_text_is}
use Rattle.showing.proofs.blocks.text_size.Goals as goal

pub returns : goal.returns
returns g c =
    let same = block_text_is c.args.block.now c.bytes.result.now c.bytes.ensures.read in
    omega (arith, ap (λ (text : List ℕ). length text) same)
