use Rattle.std.proofs.Common.{◌≡◌, Some, option_map, true, false, refl, sym, ap, subst, ◌∙◌}
use Rattle.block.specs.View.{bytes_of}
use Rattle.model.specs.Block.{Block}
use Rattle.model.specs.Chain.{Tip, tip_at, Follows}
use Rattle.blockstore.specs.Stored.{HasBlock}
use Rattle.chain_core.proofs.WaysBack.{none_other_live}
use Rattle.chain_core.proofs.BlocksByHash.{found_live}
use Rattle.chain_core.proofs.why.live_before.Goals as goal

pub returns-then-precedes : goal.returns-then-precedes
returns-then-precedes g c =
    let hash = c.in_ok-previous.field-0.bytes in
    let live = found_live c.args.store.now hash c.in_ok-stored.stored.now c.in_ok-stored.ensures.found in
    let follows = subst (λ (t : Tip). Follows t c.args.block.now) (c.at.ensures ∙ ap tip_at c.block.ensures) (c.if-precedes.ensures.0 refl) in
    subst (λ (b : Block). HasBlock c.args.store.now b × Follows (tip_at b) c.args.block.now) (sym c.live.ensures) (live, follows)

pub returns-else-precedes : goal.returns-else-precedes
returns-else-precedes g c =
    let hash = c.in_ok-previous.field-0.bytes in
    let named : c.args.block.now.header.previous ≡ Some hash = sym c.previous.ensures ∙ ap (option_map bytes_of) c.in_ok-previous.was in
    λ distinct b live follows. none_other_live c.args.store.now hash c.in_ok-stored.stored.now b c.args.block.now c.in_ok-stored.ensures.found named
    (λ other. let e : false ≡ true = c.if-precedes.ensures.1 (subst (λ (t : Tip). Follows t c.args.block.now) (sym (c.at.ensures ∙ ap tip_at c.block.ensures)) other) in cc)
    distinct live follows
