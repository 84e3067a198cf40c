use Rattle.std.proofs.Common.{◌≡◌, ◌+◌, ◌<◌, ◌^◌, List, [], ◌∷◌, length, map, drop, sym, ap, subst, ◌∙◌, arith, inl, refl}
use Rattle.std.specs.List.{AllByRecursion}
use Rattle.std.proofs.lemmas.List.{nil_from_length, length-map, length-append, drop-map}
use Rattle.model.specs.Block.{Block}
use Rattle.model.proofs.Lists.{all_append}
use Rattle.chainsel.specs.Paths.{IsOnPath}
use Rattle.chainsel.specs.Ends.{AreEnds, AreNext, AreFurthest}
use Rattle.chainsel.proofs.Lists.{mapped_rest, mapped_same}
use Rattle.chainsel.proofs.Nexts.{next_steps}
use Rattle.chainsel.proofs.EndLemmas.{ends_start, ends_more, ends_furthest, ends_within}
use Rattle.chainsel.proofs.furthest.walk_through.Given as given
use Rattle.chainsel.proofs.furthest.walk_through.Goals as goal
use Rattle.chainsel.proofs.furthest.walk_through.Goals.{Then-len-walked}

pub loop-init : goal.loop-init
loop-init g c =
    let store = c.args.store.now in
    let invalid = c.args.found.now.hashes.items in
    let new = c.args.new.now in
    let is : map (λ x. x.now) c.in_ok-blocks.blocks.items ≡ new ∷ [] = ap (map (λ x. x.now)) c.in_ok-blocks.ensures.items in
    record {
      steps = subst (AllByRecursion (IsOnPath store invalid new)) (sym is) (inl refl, tt);
      all = subst (AreEnds store invalid new 0) (sym is) (ends_start store invalid new);
      some = λ none. let e : new ∷ [] ≡ [] = sym is ∙ none in cc;
      range = λ turned. absurd (omega arith);
    }

-- where nothing was put behind, what was walked is what it was
nothing_more : (g : given.Over) (c : Then-len-walked g) → c.in_ok-walk_on.ensures.0 ≡ []
nothing_more g c =
    let old = c.loop.blocks.items in
    let new = c.walk_on.new.walked.items in
    let added = c.in_ok-walk_on.ensures in
    let long = ap length added.1 in
    nil_from_length added.0 (omega (arith, length-append (map (λ x. x.now) old) added.0, length-map old (λ x. x.now), length-map new (λ x. x.now)))

pub returns-then-len-walked-clause-steps : goal.returns-then-len-walked-clause-steps
returns-then-len-walked-clause-steps g c =
    let P : Block → Type 0 = IsOnPath c.args.store.now c.args.found.now.hashes.items c.args.new.now in
    let old = c.loop.blocks.items in
    let added = c.in_ok-walk_on.ensures in
    subst (AllByRecursion P) (sym added.1)
    (all_append P (map (λ x. x.now) old) added.0 c.loop.invariant.steps (subst (AllByRecursion P) (sym (nothing_more g (goal.at.returns-then-len-walked-clause-steps g c).Then-len-walked)) tt))

pub returns-then-len-walked-clause-all : goal.returns-then-len-walked-clause-all
returns-then-len-walked-clause-all g c =
    let added = c.in_ok-walk_on.ensures in
    let same = mapped_same (λ x. x.now) c.loop.blocks.items c.walk_on.new.walked.items added.0 c.loop.furthest added.1 (nothing_more g (goal.at.returns-then-len-walked-clause-all g c).Then-len-walked) in
    (c.loop.counter, subst (AreEnds c.args.store.now c.args.found.now.hashes.items c.args.new.now c.loop.counter) (sym same) c.loop.invariant.all)

pub returns-then-len-walked-clause-some : goal.returns-then-len-walked-clause-some
returns-then-len-walked-clause-some g c =
    let added = c.in_ok-walk_on.ensures in
    let same = mapped_same (λ x. x.now) c.loop.blocks.items c.walk_on.new.walked.items added.0 c.loop.furthest added.1 (nothing_more g (goal.at.returns-then-len-walked-clause-some g c).Then-len-walked) in
    λ none. c.loop.invariant.some (sym same ∙ none)

pub returns-then-len-walked-clause-furthest : goal.returns-then-len-walked-clause-furthest
returns-then-len-walked-clause-furthest g c =
    let store = c.args.store.now in
    let invalid = c.args.found.now.hashes.items in
    let old = c.loop.blocks.items in
    let place = c.loop.furthest in
    let ends = map (λ x. x.now) (drop place old) in
    let added = c.in_ok-walk_on.ensures in
    let none = nothing_more g (goal.at.returns-then-len-walked-clause-furthest g c).Then-len-walked in
    let after : AreNext store invalid ends [] =
    subst (AreNext store invalid ends) none (subst (λ (bs : List Block). AreNext store invalid bs added.0) (drop-map (λ x. x.now) place old) added.2) in
    λ positive. subst (AreFurthest store invalid c.args.new.now) (sym (mapped_same (λ x. x.now) old c.walk_on.new.walked.items added.0 place added.1 none))
    (ends_furthest store invalid c.args.new.now c.loop.counter ends c.loop.invariant.all c.loop.invariant.some after)

pub loop-preserved : goal.loop-preserved
loop-preserved g c =
    let store = c.args.store.now in
    let invalid = c.args.found.now.hashes.items in
    let old = c.loop.blocks.items in
    let new = c.walk_on.new.walked.items in
    let place = c.loop.furthest in
    let ends = map (λ x. x.now) (drop place old) in
    let added = c.in_ok-walk_on.ensures in
    let after : AreNext store invalid ends added.0 = subst (λ (bs : List Block). AreNext store invalid bs added.0) (drop-map (λ x. x.now) place old) added.2 in
    let behind : map (λ x. x.now) (drop c.len-walked.result new) ≡ added.0 = mapped_rest (λ x. x.now) old new added.0 c.len-walked.result added.1 (c.len-walked.ensures ∙ c.loop.blocks.ok.0) in
    record {
      steps = subst (AllByRecursion (IsOnPath store invalid c.args.new.now)) (sym added.1)
          (all_append (IsOnPath store invalid c.args.new.now) (map (λ x. x.now) old) added.0 c.loop.invariant.steps (next_steps store invalid c.args.new.now ends added.0 after));
      all = subst (AreEnds store invalid c.args.new.now (c.loop.counter + 1)) (sym behind) (ends_more store invalid c.args.new.now c.loop.counter ends added.0 c.loop.invariant.all after);
      some = λ none.
          let empty : added.0 ≡ [] = sym behind ∙ none in
          absurd (c.if-len-walked.false (let long = ap length added.1 in let nothing = ap length empty in
          omega (arith, length-append (map (λ x. x.now) old) added.0, length-map old (λ x. x.now), length-map new (λ x. x.now))));
      range = λ turned. subst (AllByRecursion (λ b. b.header.number < 2 ^ 64)) (sym behind) added.3;
    }

pub returns-clause-all : goal.returns-clause-all
returns-clause-all g c = (c.loop.counter, c.loop.invariant.all)

pub returns-clause-furthest : goal.returns-clause-furthest
returns-clause-furthest g c = λ positive.
    let last = c.loop-test.false in
    absurd (ends_within c.args.store.now c.args.found.now.hashes.items c.args.new.now c.loop.counter (2 ^ 64) (map (λ x. x.now) (drop c.loop.furthest c.loop.blocks.items)) c.loop.invariant.all c.loop.invariant.some (c.loop.invariant.range (omega arith)) positive (omega arith))
