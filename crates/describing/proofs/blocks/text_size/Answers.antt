use Rattle.std.proofs.Common.{ℕ, List, length, ap, arith}
use Rattle.model.proofs.BlockTexts.{block_text_is}
use Rattle.describing.proofs.blocks.text_size.Goals as goal

pub returns-clause-size : goal.returns-clause-size
returns-clause-size g c =
    let same = block_text_is c.args.block.now c.bytes.result.now c.bytes.ensures.read in
    omega (arith, ap (λ (text : List ℕ). length text) same)

pub returns-clause-nests : goal.returns-clause-nests
returns-clause-nests g c = let text = c.bytes.ensures.read.text in let has = text.has_text in has.nests
