use Rattle.std.proofs.Common.{◌≡◌, ◌+◌, ◌<◌, ◌^◌, ◌++◌, List, [], ◌∷◌, map, take, false, true, refl, sym, ap, subst, ◌∙◌, append_assoc}
use Rattle.std.proofs.lemmas.List.{take_all, map_push}
use Rattle.std.specs.Global.{Vec}
use Rattle.model.specs.Block.{Block}
use Rattle.model.specs.Chain.{tip_at, Follows}
use Rattle.model.proofs.Lists.{all_push}
use Rattle.blockstore.specs.Stored.{Stored}
use Rattle.chainsel.specs.Paths.{IsFit}
use Rattle.chainsel.proofs.Lists.{map_one_more}
use Rattle.chainsel.proofs.Nexts.{AreTaken, taken_more, taken_past, taken_all}
use Rattle.chainsel.proofs.furthest.push_next.Goals as goal
use Rattle.chainsel.proofs.furthest.push_next.Goals.{then-is_fit+then-follows+in_ok-push, else-is_fit, else-is_fit-via-then-is_fit+else-follows, else-is_fit-via-else-is_fit}

-- a map of some elements with one more behind them
pushed : {X Y : Type 0} (f : X → Y) (new xs : List X) (x : X) (y : Y) (old more : List Y) → new ≡ xs ++ x ∷ [] → f x ≡ y → map f xs ≡ old ++ more → map f new ≡ old ++ (more ++ y ∷ [])
pushed f new xs x y old more behind is before = ap (map f) behind ∙ (map_push f xs x ∙ ((λ i. before i ++ is i ∷ []) ∙ append_assoc old more (y ∷ [])))

pub loop-stored-preserved : goal.loop-stored-preserved
loop-stored-preserved g c =
    let invalid = c.args.found.now.hashes.items in
    let end = c.args.end.now in
    let items = c.deref-stored-items.result.now in
    let i = c.loop-stored.stored-index in
    let stored = c.stored-item.result in
    let b = stored.now.block in
    let found = map (λ x. x.now) (take i items) in
    let old = map (λ x. x.now) c.args.walked.now.items in
    let before = c.loop-stored.invariant in
    let one_more : map (λ x. x.now) (take (i + 1) items) ≡ found ++ stored.now ∷ [] = map_one_more (λ x. x.now) items i stored c.loop-stored-test.true c.stored-item.is in
    elim c.if-is_fit.branch [
      | then-is_fit+then-follows+in_ok-push w ↦
          let follows : Follows (tip_at end) b = subst (Follows (tip_at end)) w.block.ensures (w.if-follows.ensures.next.0 refl) in
          let block = w.live.result in
          let behind : w.push.new.self.items ≡ c.loop-stored.walked.items ++ block ∷ [] = w.in_ok-push.ensures.items in (
            before.0 ++ b ∷ [],
            ap (λ (v : Vec _). map (λ x. x.now) v.items) w.walked-is
                ∙ pushed (λ x. x.now) w.push.new.self.items c.loop-stored.walked.items block b old before.0 behind w.live.ensures before.1,
            subst (λ (ss : List Stored). AreTaken invalid end ss (before.0 ++ b ∷ [])) (sym one_more) (taken_more invalid end found stored.now before.0 before.2 (w.if-is_fit.ensures.0 refl) follows),
            all_push (λ c. c.header.number < 2 ^ 64) before.0 b before.3 (subst (λ (d : Block). d.header.number < 2 ^ 64) w.block.ensures w.follows.ensures.range),
          )
      | else-is_fit w ↦
          let refused : IsFit invalid stored.now → Follows (tip_at end) b → ⊥ =
          elim w.else-is_fit.branch [
            | else-is_fit-via-then-is_fit+else-follows v ↦ λ fit follows. let e : false ≡ true = v.if-follows.ensures.next.1 (subst (Follows (tip_at end)) (sym v.block.ensures) follows) in cc
            | else-is_fit-via-else-is_fit v ↦ λ fit follows. let e : false ≡ true = v.if-is_fit.ensures.1 fit in cc
          ] in (
            before.0,
            ap (λ (v : Vec _). map (λ x. x.now) v.items) w.walked-is ∙ before.1,
            subst (λ (ss : List Stored). AreTaken invalid end ss before.0) (sym one_more) (taken_past invalid end found stored.now before.0 before.2 refused),
            before.3,
          )
    ]

pub returns : goal.returns
returns g c =
    let items = c.deref-stored-items.result.now in
    let before = c.loop-stored.invariant in
    let all : AreTaken c.args.found.now.hashes.items c.args.end.now (map (λ x. x.now) c.in_ok-successors.successors.items) before.0 =
    subst (λ (ss : List _). AreTaken c.args.found.now.hashes.items c.args.end.now (map (λ x. x.now) ss) before.0)
    (take_all c.loop-stored.stored-index items c.loop-stored-test.false ∙ c.deref-stored-items.ensures.value) before.2 in (
      before.0,
      before.1,
      taken_all c.args.store.now c.args.found.now.hashes.items c.args.end.now c.hash.result.bytes (map (λ x. x.now) c.in_ok-successors.successors.items) before.0 c.in_ok-successors.ensures.found c.hash.ensures all,
      before.3,
    )
