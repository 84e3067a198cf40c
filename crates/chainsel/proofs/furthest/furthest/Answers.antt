use Rattle.std.proofs.Common.{◌≡◌, ◌≢◌, ◌-◌, ℕ, true, false, List, [], length, map, take, drop, Contains, Bor, refl, sym, ap, subst, ◌∙◌}
use Rattle.std.proofs.lemmas.List.{take_rest}
use Rattle.blockstore.specs.declared.live_block.LiveBlock.{LiveBlock}
use Rattle.model.specs.Block.{Block}
use Rattle.blockstore.specs.Shelves.{HasPast}
use Rattle.chainsel.specs.Ends.{HasLeastHash, ends_of}
use Rattle.chainsel.proofs.EndLemmas.{least_is_best, newest_is_best}
use Rattle.chainsel.proofs.furthest.furthest.Given as given
use Rattle.chainsel.proofs.furthest.furthest.Goals as goal

-- the ends, as a slice of what was walked
ends : (g : given.Over) (c : goal.After-least-end g) → (rest : List (Bor (LiveBlock g.row.S.Denot))) × (rest ≡ drop c.in_ok-walk.walk.furthest c.in_ok-walk.walk.blocks.items)
    × ((rest ≢ [] → Contains (map (λ x. x.now) rest) c.least-end.result.now) × HasLeastHash (map (λ x. x.now) rest) c.least-end.result.now)
ends g c =
    let d = c.deref.result.now in
    let f = c.in_ok-walk.walk.furthest in
    (take (length d - f) (drop f d), take_rest d f ∙ ap (drop f) c.deref.ensures.value, (c.least-end.ensures.member, c.least-end.ensures.least))

pub returns-clause-descends : goal.returns-clause-descends
returns-clause-descends g c =
    let best = c.least-end.result.now in
    let all = c.in_ok-walk.ensures.all in
    let last = ends g c in
    let member : Contains (ends_of c.in_ok-walk.walk) best =
    subst (λ es. es ≢ [] → Contains (map (λ x. x.now) es) best) last.1 last.2.0 (λ none. c.in_ok-walk.ensures.some (ap (map (λ x. x.now)) none)) in
    ((all.1 best).0 member).descends

pub returns-clause-best : goal.returns-clause-best
returns-clause-best g c = λ positive.
    let best = c.least-end.result.now in
    let furthest = c.in_ok-walk.ensures.furthest positive in
    let last = ends g c in
    let member : Contains (ends_of c.in_ok-walk.walk) best =
    subst (λ es. es ≢ [] → Contains (map (λ x. x.now) es) best) last.1 last.2.0 (λ none. furthest.some (ap (map (λ x. x.now)) none)) in
    let least : HasLeastHash (ends_of c.in_ok-walk.walk) best = subst (λ es. HasLeastHash (map (λ x. x.now) es) best) last.1 last.2.1 in
    least_is_best c.args.store.now c.args.found.now.hashes.items c.args.new.now (ends_of c.in_ok-walk.walk) best furthest member least

pub returns-then-not-goes_past-clause-descends : goal.returns-then-not-goes_past-clause-descends
returns-then-not-goes_past-clause-descends g c = record { path = []; linked = tt; members = tt; last = refl }

pub returns-then-not-goes_past-clause-best : goal.returns-then-not-goes_past-clause-best
returns-then-not-goes_past-clause-best g c = λ positive.
    let store = c.args.store.now in
    let new = c.args.new.now in
    newest_is_best store c.args.found.now.hashes.items new
    (subst (λ (n : ℕ). HasPast n store.blocks → ⊥) (c.number.ensures ∙ ap (λ (b : Block). b.header.number) c.block.ensures) (λ past. let e : false ≡ true = sym c.if-not-goes_past.true ∙ c.goes_past.ensures.1 past in cc))
