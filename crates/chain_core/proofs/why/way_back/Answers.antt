use Rattle.std.proofs.Common.{List, [], ◌∷◌, reverse, refl, sym, ap, subst, ◌∙◌}
use Rattle.std.proofs.lemmas.List.{reverse-append}
use Rattle.model.specs.Block.{Block, block_hash_of}
use Rattle.model.specs.Chain.{tip_at, Follows}
use Rattle.model.specs.Asked.{HangsOn, Misses, Misfits}
use Rattle.chain_core.specs.Ways.{IsFooting}
use Rattle.chain_core.proofs.BlocksByHash.{live_there}
use Rattle.chain_core.proofs.WaysBack.{way_found, apart_alone}
use Rattle.chain_core.proofs.why.way_back.Goals as goal

pub loop-next-init : goal.loop-next-init
loop-next-init g c =
    let b = c.args.block.now in (
      [],
      ap (λ (bs : List Block). reverse bs) c.in_ok-blocks.ensures.items ∙ ap (λ (x : Block). x ∷ []) c.in_ok-try_clone.ensures.same,
      tt,
      refl,
      λ network s whole has live apart. (apart_alone network s b (live_there network c.args.chain_db.now s has b live) apart, tt),
    )

pub loop-next-preserved : goal.loop-next-preserved
loop-next-preserved g c =
    let i = c.loop-next.invariant in
    let next = c.in-Live.next.now in
    let blocks : List Block = c.loop-next.blocks.items in (
      c.loop-next.first.now ∷ i.0,
      ap (λ (bs : List Block). reverse bs) c.in_ok-push-in-Live.ensures.items
          ∙ (reverse-append blocks _ ∙ (ap (λ (x : Block). x ∷ reverse blocks) c.in_ok-try_clone-in-Live.ensures.same ∙ ap (λ (bs : List Block). next ∷ bs) i.1)),
      (subst (Follows (tip_at next)) c.block.ensures c.in-Live.ensures.on, i.2),
      i.3,
      λ network s whole has live apart. (c.in-Live.ensures.before network s whole has, i.4 network s whole has live apart),
    )

pub returns-in-Chain : goal.returns-in-Chain
returns-in-Chain g c = λ network s whole has live apart.
    let i = c.loop-next.invariant in
    let first = c.loop-next.first.now in
    way_found network s c.args.block.now first i.0 c.way_of.result.blocks.items c.way_of.result.footing (c.way_of.ensures.blocks ∙ i.1) i.2 i.3 (i.4 network s whole has live apart) apart
    (subst (IsFooting network s first) (sym c.way_of.ensures.footing) (subst (HangsOn s c.in-Chain.keep) c.block.ensures (c.in-Chain.ensures.before network s whole has)))

pub returns-in-Missing : goal.returns-in-Missing
returns-in-Missing g c = λ network s whole has live apart.
    let i = c.loop-next.invariant in
    let first = c.loop-next.first.now in
    let found = c.way_of-in-Missing in
    way_found network s c.args.block.now first i.0 found.result.blocks.items found.result.footing (found.ensures.blocks ∙ i.1) i.2 i.3 (i.4 network s whole has live apart) apart
    (subst (IsFooting network s first) (sym found.ensures.footing) (subst (λ (b : Block). Misses network s b c.in-Missing.hash.bytes) c.block.ensures (c.in-Missing.ensures.before network s whole has)))

pub returns-in-Misfit : goal.returns-in-Misfit
returns-in-Misfit g c = λ network s whole has live apart.
    let i = c.loop-next.invariant in
    let first = c.loop-next.first.now in
    let found = c.way_of-in-Misfit in
    way_found network s c.args.block.now first i.0 found.result.blocks.items found.result.footing (found.ensures.blocks ∙ i.1) i.2 i.3 (i.4 network s whole has live apart) apart
    (subst (IsFooting network s first) (sym found.ensures.footing) (subst (Misfits network s) c.block.ensures (c.in-Misfit.ensures.before network s whole has), sym (c.hash.ensures ∙ ap block_hash_of c.block-in-Misfit.ensures)))
