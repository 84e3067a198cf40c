use Rattle.std.proofs.Common.{◌≡◌, Some, option_map, true, false, sym, ap, subst, ◌∙◌}
use Rattle.block.specs.View.{bytes_of}
use Rattle.model.specs.Block.{Block}
use Rattle.model.specs.Chain.{tip_at, Follows}
use Rattle.chainsel.proofs.Parents.{none_other}
use Rattle.chainsel.proofs.way.live_parent.Goals as goal
use Rattle.chainsel.proofs.way.live_parent.Goals.{else-is_fit-via-then-is_fit+else-follows, else-is_fit-via-else-is_fit}

pub returns-else-is_fit : goal.returns-else-is_fit
returns-else-is_fit g c =
    let hash = c.in_ok-previous.field-0.bytes in
    let named : c.args.block.now.header.previous ≡ Some hash = sym c.previous.ensures ∙ ap (option_map bytes_of) c.in_ok-previous.was in
    λ distinct b. none_other c.args.store.now c.args.found.now.hashes.items hash c.in_ok-stored.stored.now b c.args.block.now c.in_ok-stored.ensures.found named
    (elim c.else-is_fit.branch [
      | else-is_fit-via-then-is_fit+else-follows w ↦ λ fit follows. let e : false ≡ true = w.if-follows.ensures.next.1 (subst (λ (d : Block). Follows (tip_at d) c.args.block.now) (sym w.block.ensures) follows) in cc
      | else-is_fit-via-else-is_fit w ↦ λ fit follows. let e : false ≡ true = w.if-is_fit.ensures.1 fit in cc
    ])
    distinct
