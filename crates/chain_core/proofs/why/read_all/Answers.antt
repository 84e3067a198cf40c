use Rattle.std.proofs.Common.{◌≡◌, ◌+◌, ◌∷◌, ◌++◌, [], List, take, sym, ap, ◌∙◌}
use Rattle.std.proofs.lemmas.List.{take_more}
use Rattle.model.specs.Block.{Block}
use Rattle.chain_core.proofs.why.read_all.Goals as goal

pub loop-block-preserved : goal.loop-block-preserved
loop-block-preserved g c =
    let blocks : List Block = c.args.blocks.now in
    let i = c.loop-block.block-index in
    let b : Block = c.block-item.result in
    let more : take (i + 1) blocks ≡ take i blocks ++ b ∷ [] = take_more blocks i b c.loop-block-test.true ∙ ap (λ (x : Block). take i blocks ++ x ∷ []) (sym c.block-item.is) in
    c.in_ok-push.ensures.items
    ∙ (ap (λ (x : Block). c.loop-block.read.items ++ x ∷ []) c.in_ok-read-2.ensures
    ∙ (ap (λ (bs : List Block). bs ++ b ∷ []) c.loop-block.invariant ∙ sym more))
