use Rattle.std.proofs.Common.{◌≡◌, ◌+◌, ◌-◌, ◌<◌, ◌≤◌, ◌^◌, ◌++◌, ℕ, List, [], ◌∷◌, map, take, drop, length, sym, ap, subst, ◌∙◌, arith, append-nil, append_assoc}
use Rattle.std.proofs.lemmas.List.{take_all, length-map, length-drop}
use Rattle.model.specs.Block.{Block}
use Rattle.model.proofs.Lists.{all_append}
use Rattle.chainsel.specs.Ends.{AreNext}
use Rattle.chainsel.proofs.Lists.{one_from}
use Rattle.chainsel.proofs.Nexts.{next_none, next_more}
use Rattle.chainsel.proofs.furthest.walk_on.Goals as goal

pub loop-place-init : goal.loop-place-init
loop-place-init g c =
    let store = c.args.store.now in
    let invalid = c.args.found.now.hashes.items in
    let start = map (λ x. x.now) c.args.walked.now.items in
    let none : c.args.from - c.args.from ≡ 0 = omega arith in
    ([], sym (append-nil start), subst (λ (n : ℕ). AreNext store invalid (take n (drop c.args.from start)) []) (sym none) (next_none store invalid), tt)

pub loop-place-preserved : goal.loop-place-preserved
loop-place-preserved g c =
    let store = c.args.store.now in
    let invalid = c.args.found.now.hashes.items in
    let start = map (λ x. x.now) c.args.walked.now.items in
    let from = c.args.from in
    let place = c.loop-place.place in
    let before = c.loop-place.invariant in
    let added = c.in_ok-push_next.ensures in
    let end = c.index-end.result.now in
    let within : place < length start = omega (arith, length-map c.args.walked.now.items (λ x. x.now), c.loop-place-test.true) in
    let one_more : take (place + 1 - from) (drop from start) ≡ take (place - from) (drop from start) ++ end.now ∷ [] =
    one_from (λ x. x.now) c.loop-place.walked.items start before.0 from place end before.1 (omega arith) within c.index-end.ensures in (
      before.0 ++ added.0,
      added.1 ∙ (ap (λ (bs : List Block). bs ++ added.0) before.1 ∙ append_assoc start before.0 added.0),
      subst (λ (bs : List Block). AreNext store invalid bs (before.0 ++ added.0)) (sym one_more)
          (next_more store invalid (take (place - from) (drop from start)) before.0 end.now added.0 before.2 (subst (λ (b : Block). AreNext store invalid (b ∷ []) added.0) c.block.ensures added.2)),
      all_append (λ b. b.header.number < 2 ^ 64) before.0 added.0 before.3 added.3,
    )

pub returns : goal.returns
returns g c =
    let start = map (λ x. x.now) c.args.walked.now.items in
    let from = c.args.from in
    let before = c.loop-place.invariant in
    let rest : length (drop from start) ≤ c.loop-place.place - from = omega (arith, length-map c.args.walked.now.items (λ x. x.now), length-drop from start, c.loop-place-test.false) in
    (before.0, before.1, subst (λ (bs : List Block). AreNext c.args.store.now c.args.found.now.hashes.items bs before.0) (take_all (c.loop-place.place - from) (drop from start) rest) before.2, before.3)
