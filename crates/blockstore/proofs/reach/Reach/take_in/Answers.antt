use Rattle.std.proofs.Common.{◌≡◌, ◌+◌, ◌∙◌, ◌++◌, ◌∷◌, [], ◌<◌, true, false, List, Some, Contains, refl, ap, subst, sym, inl, inr, arith, length, vec_len, vec_capacity}
use Rattle.std.proofs.lemmas.List.{length-append}
use Rattle.std.proofs.lemmas.List.Elements.{Contains-push}
use Rattle.model.specs.Block.{Block, block_hash_of}
use Rattle.model.specs.Chain.{tip_at}
use Rattle.model.proofs.Lists.{contains_first, contains_cases, nothing_contained}
use Rattle.block.specs.declared.tip.Tip.{Tip as Place}
use Rattle.block.specs.View.{tip_of}
use Rattle.blockstore.specs.Stored.{Stored, unmarked}
use Rattle.blockstore.specs.Placed.{Placed}
use Rattle.blockstore.specs.Shelves.{IsSame}
use Rattle.blockstore.specs.Ways.{Stands, FollowsOne, IsNotedAt}
use Rattle.blockstore.proofs.Noting.{settled}
use Rattle.blockstore.proofs.Rising.{came, came_stands, came_fewer}
use Rattle.blockstore.proofs.reach.Reach.take_in.Goals as goal
use Rattle.blockstore.proofs.reach.Reach.take_in.Goals.{else-reached-via-then-reached+else-goes_past, else-reached-via-else-reached}

pub settle-requires-clause-room : goal.settle-requires-clause-room
settle-requires-clause-room g c =
    let old = c.args.blocks.now in
    let new = c.put.new.self in
    let placed : c.new-2.result ≡ record { stored = unmarked c.args.block; reached = c.connects-reached.result } = c.new-2.ensures ∙ ap (λ (s : Stored). record { stored = s; reached = c.connects-reached.result }) c.new.ensures in
    let is = subst (λ (p : Placed). IsSame new.blocks (old.blocks ++ p.stored ∷ [])) placed c.in_ok-put.ensures.ok in
    let noted = subst (λ (p : Placed). IsNotedAt (block_hash_of p.stored.block) p.reached old.notes new.notes) placed c.in_ok-put.ensures.notes in
    let fewer = came_fewer (Some (tip_of c.args.root)) old.blocks new.blocks c.args.block old.notes new.notes c.connects-reached.result c.requires.notes c.requires.alone is (c.connects-reached.ensures c.args.block (sym (c.header.ensures ∙ ap (λ (b : Block). b.header) c.block-2.ensures))) noted c.if-reached.true in
    let count = is.count in
    let none : length c.reserve.new.self.items ≡ 0 = ap length (c.reserve.ensures.items ∙ c.requires.none) in
    let many = c.in_ok-reserve.ensures.ok in
    let len = c.len.ensures in
    let longer = c.push.ensures.upper_bound in
    let wide = c.push.ensures.capacity in
    omega (arith, fewer, count, none, many, len, longer, wide, length-append old.blocks (unmarked c.args.block ∷ []))

pub settle-requires-clause-all_stand : goal.settle-requires-clause-all_stand
settle-requires-clause-all_stand g c =
    let old = c.args.blocks.now in
    let new = c.put.new.self in
    let root = Some (tip_of c.args.root) in
    let placed : c.new-2.result ≡ record { stored = unmarked c.args.block; reached = c.connects-reached.result } =
    c.new-2.ensures ∙ ap (λ (s : Stored). record { stored = s; reached = c.connects-reached.result }) c.new.ensures in
    let is = subst (λ (p : Placed). IsSame new.blocks (old.blocks ++ p.stored ∷ [])) placed c.in_ok-put.ensures.ok in
    let noted = subst (λ (p : Placed). IsNotedAt (block_hash_of p.stored.block) p.reached old.notes new.notes) placed c.in_ok-put.ensures.notes in
    let none : length c.reserve.new.self.items ≡ 0 = ap length (c.reserve.ensures.items ∙ c.requires.none) in
    let many = c.in_ok-reserve.ensures.ok in
    let len = c.len.ensures in
    let free : vec_len c.reserve.new.self < vec_capacity c.reserve.new.self = omega (arith, none, many, len) in
    let pushed : c.push.new.self.items ≡ c.reserve.new.self.items ++ c.at-place.result ∷ [] = c.push.ensures.items ∙ rw (c.push.ensures.succeeds free) refl in
    let alone : c.push.new.self.items ≡ c.at-place.result ∷ [] = pushed ∙ ap (λ (ws : List Place). ws ++ c.at-place.result ∷ []) (c.reserve.ensures.items ∙ c.requires.none) in
    let stands = came_stands root old.blocks new.blocks c.args.block old.notes new.notes c.connects-reached.result c.requires.notes c.requires.alone is (c.connects-reached.ensures c.args.block (sym (c.header.ensures ∙ ap (λ (b : Block). b.header) c.block-2.ensures))) noted c.if-reached.true in
    λ p member. elim (contains_cases c.at-place.result [] p (subst (λ (ws : List Place). Contains ws p) alone member)) [
      | inl same ↦ subst (Stands root new.blocks true new.notes) (sym (c.at-place.ensures ∙ ap tip_at c.block-3.ensures) ∙ ap tip_of same) stands
      | inr later ↦ absurd (nothing_contained p later)
    ]

pub settle-requires-clause-turning : goal.settle-requires-clause-turning
settle-requires-clause-turning g c =
    let old = c.args.blocks.now in
    let new = c.put.new.self in
    let root = Some (tip_of c.args.root) in
    let placed : c.new-2.result ≡ record { stored = unmarked c.args.block; reached = c.connects-reached.result } =
    c.new-2.ensures ∙ ap (λ (s : Stored). record { stored = s; reached = c.connects-reached.result }) c.new.ensures in
    let is = subst (λ (p : Placed). IsSame new.blocks (old.blocks ++ p.stored ∷ [])) placed c.in_ok-put.ensures.ok in
    let noted = subst (λ (p : Placed). IsNotedAt (block_hash_of p.stored.block) p.reached old.notes new.notes) placed c.in_ok-put.ensures.notes in
    let none : length c.reserve.new.self.items ≡ 0 = ap length (c.reserve.ensures.items ∙ c.requires.none) in
    let many = c.in_ok-reserve.ensures.ok in
    let len = c.len.ensures in
    let free : vec_len c.reserve.new.self < vec_capacity c.reserve.new.self = omega (arith, none, many, len) in
    let pushed : c.push.new.self.items ≡ c.reserve.new.self.items ++ c.at-place.result ∷ [] = c.push.ensures.items ∙ rw (c.push.ensures.succeeds free) refl in
    let last = subst (λ (ws : List Place). Contains ws c.at-place.result) (sym pushed) (Contains-push c.reserve.new.self.items c.at-place.result) in
    came root old.blocks new.blocks c.args.block old.notes new.notes c.connects-reached.result c.requires.notes c.requires.alone is (c.connects-reached.ensures c.args.block (sym (c.header.ensures ∙ ap (λ (b : Block). b.header) c.block-2.ensures))) noted c.push.new.self.items
    (λ reached. (c.at-place.result, last, (c.at-place.ensures ∙ ap tip_at c.block-3.ensures)))

pub returns-else-reached-clause-notes : goal.returns-else-reached-clause-notes
returns-else-reached-clause-notes g c =
    let old = c.args.blocks.now in
    let new = c.put.new.self in
    let root = Some (tip_of c.args.root) in
    let placed : c.new-2.result ≡ record { stored = unmarked c.args.block; reached = c.connects-reached.result } =
    c.new-2.ensures ∙ ap (λ (s : Stored). record { stored = s; reached = c.connects-reached.result }) c.new.ensures in
    let is = subst (λ (p : Placed). IsSame new.blocks (old.blocks ++ p.stored ∷ [])) placed c.in_ok-put.ensures.ok in
    let noted = subst (λ (p : Placed). IsNotedAt (block_hash_of p.stored.block) p.reached old.notes new.notes) placed c.in_ok-put.ensures.notes in
    elim c.else-reached.branch [
      | else-reached-via-then-reached+else-goes_past w ↦
          let place = c.at-place.result in
          let turning = came root old.blocks new.blocks c.args.block old.notes new.notes c.connects-reached.result c.requires.notes c.requires.alone is (c.connects-reached.ensures c.args.block (sym (c.header.ensures ∙ ap (λ (b : Block). b.header) c.block-2.ensures))) noted (place ∷ [])
          (λ reached. (place, contains_first place [], (c.at-place.ensures ∙ ap tip_at c.block-3.ensures))) in
          settled root new.blocks true (FollowsOne (place ∷ [])) new.notes
          (λ y member one. elim (contains_cases place [] one.0 one.1) [
            | inl same ↦
                let next : y.block.header.number ≡ (tip_of one.0).number + 1 = one.2.number in
                let number_of : place.number ≡ (tip_of one.0).number = ap (λ (p : Place). (tip_of p).number) same in
                let e : false ≡ true = sym w.if-goes_past.false ∙ w.goes_past.ensures.1 (y, member, omega (arith, next, number_of)) in cc
            | inr later ↦ nothing_contained one.0 later
          ]) turning
      | else-reached-via-else-reached w ↦
          let turning = came root old.blocks new.blocks c.args.block old.notes new.notes c.connects-reached.result c.requires.notes c.requires.alone is (c.connects-reached.ensures c.args.block (sym (c.header.ensures ∙ ap (λ (b : Block). b.header) c.block-2.ensures))) noted []
          (λ reached. absurd (let e : true ≡ false = sym reached ∙ w.if-reached.false in cc)) in
          settled root new.blocks true (FollowsOne []) new.notes (λ y member one. nothing_contained one.0 one.1) turning
    ]
