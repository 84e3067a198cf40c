use Rattle.std.proofs.Common.{◌≡◌, ℕ, ◌++◌, map, take, List, [], ◌∷◌, ap, ◌∙◌}
use Rattle.std.proofs.lemmas.List.{map-append, take_all}
use Rattle.model.specs.Block.{Block, block_hash_of}
use Rattle.block.specs.View.{bytes_of}
use Rattle.chain.specs.Noted.{noted}
use Rattle.chain.proofs.Noting.{noted_more, blocks_more}
use Rattle.chain.proofs.chain.note_all.Goals as goal

pub loop-block-preserved : goal.loop-block-preserved
loop-block-preserved g c =
    let inv = c.loop-block.invariant in
    record {
      gone = ap noted c.and.ensures ∙ map-append (λ p. p.0) c.loop-block.gone.items ((c.block-item.result, tt) ∷ [])
          ∙ blocks_more _ c.args.blocks.now c.loop-block.block-index c.block-item.result _ c.loop-block-test.true c.block-item.is inv.gone;
      hashes = ap (map bytes_of) c.push_reserved.ensures.items ∙ map-append bytes_of c.loop-block.hashes.items (c.hash-hash.result ∷ [])
          ∙ ap (λ (h : List ℕ). map bytes_of c.loop-block.hashes.items ++ h ∷ []) c.hash-hash.ensures
          ∙ noted_more block_hash_of _ c.args.blocks.now c.loop-block.block-index c.block-item.result _ c.loop-block-test.true c.block-item.is inv.hashes;
      room = c.push_reserved.ensures.capacity ∙ inv.room;
    }

pub returns-clause-gone : goal.returns-clause-gone
returns-clause-gone g c =
    let whole : take c.loop-block.block-index c.args.blocks.now ≡ c.args.blocks.now = take_all c.loop-block.block-index c.args.blocks.now c.loop-block-test.false in
    c.loop-block.invariant.gone ∙ ap (λ (l : List Block). noted c.args.gone.now.items ++ l) whole

pub returns-clause-hashes : goal.returns-clause-hashes
returns-clause-hashes g c =
    let whole : take c.loop-block.block-index c.args.blocks.now ≡ c.args.blocks.now = take_all c.loop-block.block-index c.args.blocks.now c.loop-block-test.false in
    c.loop-block.invariant.hashes ∙ ap (λ (l : List Block). map bytes_of c.args.hashes.now.items ++ map block_hash_of l) whole
