use Rattle.std.proofs.Common.{◌≡◌, ◌+◌, ◌-◌, ◌≤◌, List, [], ◌∷◌, ◌++◌, length, take, reverse, true, false, refl, sym, ap, subst, ◌∙◌, arith}
use Rattle.std.proofs.lemmas.List.{reverse-append}
use Rattle.model.specs.Block.{Block}
use Rattle.model.specs.Chain.{genesis_tip, tip_at, tip_after, Follows}
use Rattle.chain.specs.Chained.{chain_of}
use Rattle.chainsel.specs.Paths.{IsWay}
use Rattle.chainsel.proofs.Walks.{IsWalk, way_found, walk_step, no_way_further, no_way_lower}
use Rattle.chainsel.proofs.way.way_to.Goals as goal
use Rattle.chainsel.proofs.way.way_to.Goals.{else-keep-len-via-then-keep-len+else-follows_chain, else-keep-len-via-else-keep-len}

-- the blocks with the next one behind, the other way round
reversed : (blocks old : List Block) (b first : Block) → blocks ≡ old ++ b ∷ [] → b ≡ first → reverse blocks ≡ first ∷ reverse old
reversed blocks old b first pushed same = ap reverse pushed ∙ (reverse-append old (b ∷ []) ∙ ap (λ c. c ∷ reverse old) same)

pub returns-then-follows_chain : goal.returns-then-follows_chain
returns-then-follows_chain g c =
    let chain = chain_of c.args.chain.now in
    let first = c.loop-keep.first.now in
    let keep = c.loop-keep.keep - 1 in
    let low : c.args.immutable ≤ keep = let more = c.loop-keep-test.true in omega arith in
    let number : keep + 1 ≡ first.header.number = let is = c.loop-keep.invariant.number in let more = c.loop-keep-test.true in omega arith in
    let walked : reverse c.push.new.self.items ≡ first ∷ reverse c.loop-keep.way.items =
    reversed c.push.new.self.items c.loop-keep.way.items c.in_ok-read.field-0 first c.in_ok-push.ensures.items c.in_ok-read.ensures in
    let IsWayBy : List Block → Type 0 = IsWay c.args.store.now c.args.found.now.hashes.items chain c.args.immutable c.args.new.now c.args.best.end.now keep in
    subst IsWayBy (sym {A = List Block} c.reverse.ensures.items) (subst IsWayBy (sym walked)
    (way_found c.args.store.now c.args.found.now.hashes.items chain c.args.immutable c.args.new.now c.args.best.end.now first (reverse c.loop-keep.way.items) keep c.loop-keep.invariant.walk number low (let within = c.if-keep-len.true in let long = c.len.ensures in omega (arith, within, long)) (subst (Follows (tip_after genesis_tip (take keep chain))) c.block-then-keep-len.ensures (c.if-follows_chain.ensures.0 refl))))

pub returns-in_default : goal.returns-in_default
returns-in_default g c =
    let chain = chain_of c.args.chain.now in
    let first = c.loop-keep.first.now in
    let keep = c.loop-keep.keep - 1 in
    let number : keep + 1 ≡ first.header.number = let is = c.loop-keep.invariant.number in let more = c.loop-keep-test.true in omega arith in
    let refused : keep ≤ length chain → Follows (tip_after genesis_tip (take keep chain)) first → ⊥ =
    elim c.else-keep-len.branch [
      | else-keep-len-via-then-keep-len+else-follows_chain w ↦ λ within follows. let e : false ≡ true = w.if-follows_chain.ensures.1 (subst (Follows (tip_after genesis_tip (take keep chain))) (sym w.block-then-keep-len.ensures) follows) in cc
      | else-keep-len-via-else-keep-len w ↦ λ within follows. let past = w.if-keep-len.false in let long = c.len.ensures in omega (arith, past, long)
    ] in
    λ distinct linked within before members path.
    no_way_further c.args.store.now c.args.found.now.hashes.items chain c.args.immutable c.args.new.now c.args.best.end.now first (reverse c.loop-keep.way.items) keep c.loop-keep.invariant.walk number refused
    (λ apart b on follows. c.in_default.ensures.parent apart.1 b on (subst (Follows (tip_at b)) (sym c.block-in-loop-keep.ensures) follows)) before (record { distinct = distinct; chain_linked = linked; within = within; members = members; linked = path })

pub loop-keep-preserved : goal.loop-keep-preserved
loop-keep-preserved g c =
    let chain = chain_of c.args.chain.now in
    let first = c.loop-keep.first.now in
    let keep = c.loop-keep.keep - 1 in
    let number : keep + 1 ≡ first.header.number = let is = c.loop-keep.invariant.number in let more = c.loop-keep-test.true in omega arith in
    let refused : keep ≤ length chain → Follows (tip_after genesis_tip (take keep chain)) first → ⊥ =
    elim c.else-keep-len.branch [
      | else-keep-len-via-then-keep-len+else-follows_chain w ↦ λ within follows. let e : false ≡ true = w.if-follows_chain.ensures.1 (subst (Follows (tip_after genesis_tip (take keep chain))) (sym w.block-then-keep-len.ensures) follows) in cc
      | else-keep-len-via-else-keep-len w ↦ λ within follows. let past = w.if-keep-len.false in let long = c.len.ensures in omega (arith, past, long)
    ] in
    let walk = walk_step c.args.store.now c.args.found.now.hashes.items chain c.args.immutable c.args.new.now c.args.best.end.now first c.in-Some.before.now (reverse c.loop-keep.way.items) keep c.loop-keep.invariant.walk number refused c.in-Some.ensures.parent.0 (subst (Follows (tip_at c.in-Some.before.now)) c.block-in-loop-keep.ensures c.in-Some.ensures.parent.1) in
    record {
      walk = subst (IsWalk c.args.store.now c.args.found.now.hashes.items chain c.args.immutable c.args.new.now c.args.best.end.now c.in-Some.before.now)
          (sym (reversed c.push.new.self.items c.loop-keep.way.items c.in_ok-read.field-0 first c.in_ok-push.ensures.items c.in_ok-read.ensures)) walk;
      number = let next = (subst (Follows (tip_at c.in-Some.before.now)) c.block-in-loop-keep.ensures c.in-Some.ensures.parent.1).number in omega arith;
      walked = c.in-Some.ensures.walked;
    }

pub returns : goal.returns
returns g c = λ distinct linked within before members path.
    let low : c.loop-keep.first.now.header.number ≤ c.args.immutable = let is = c.loop-keep.invariant.number in let end = c.loop-keep-test.false in omega arith in
    no_way_lower c.args.store.now c.args.found.now.hashes.items (chain_of c.args.chain.now) c.args.immutable c.args.new.now c.args.best.end.now c.loop-keep.first.now (reverse c.loop-keep.way.items) c.loop-keep.invariant.walk low
    before (record { distinct = distinct; chain_linked = linked; within = within; members = members; linked = path })
