use Rattle.std.proofs.Common.{◌≡◌, ◌+◌, ◌++◌, List, [], ◌∷◌, map, take, Contains, false, true, refl, sym, ap, subst, ◌∙◌}
use Rattle.std.specs.Ordering.{nat_cmp}
use Rattle.std.specs.Cmp.Lexicographic.{slice_cmp}
use Rattle.model.specs.Block.{Block, block_hash_of}
use Rattle.model.proofs.MappedLists.{contains_map}
use Rattle.chainsel.specs.Ends.{HasLeastHash}
use Rattle.chainsel.proofs.Lists.{map_one_more}
use Rattle.chainsel.proofs.Leasts.{least_lesser, least_stays}
use Rattle.chainsel.proofs.furthest.least.Goals as goal
use Rattle.chainsel.proofs.furthest.least.Goals.{then-is_less, else-is_less}

pub loop-end-preserved : goal.loop-end-preserved
loop-end-preserved g c =
    let ends = c.args.ends.now in
    let i = c.loop-end.end-index in
    let end = c.end-item.result in
    let least = c.loop-end.least in
    let before = map (λ x. x.now) (take i ends) in
    let more : map (λ x. x.now) (take (i + 1) ends) ≡ before ++ end.now ∷ [] = map_one_more (λ x. x.now) ends i end c.loop-end-test.true c.end-item.is in
    let compared : slice_cmp nat_cmp c.hash.result.bytes c.hash-in-loop-end.result.bytes ≡ slice_cmp nat_cmp (block_hash_of end.now) (block_hash_of least.now) =
    λ k. slice_cmp nat_cmp ((c.hash.ensures ∙ ap block_hash_of c.block.ensures) k) ((c.hash-in-loop-end.ensures ∙ ap block_hash_of c.block-in-loop-end.ensures) k) in
    elim c.if-is_less.branch [
      | then-is_less w ↦
          let is : c.if-is_less.least.now ≡ end.now = ap (λ b. b.now) w.least-is in
          record {
            member = λ some. subst (Contains (map (λ x. x.now) ends)) (sym is) (contains_map (λ x. x.now) ends end (i, c.loop-end-test.true, sym c.end-item.is));
            least = subst (HasLeastHash (map (λ x. x.now) (take (i + 1) ends))) (sym is)
                (subst (λ (bs : List Block). HasLeastHash bs end.now) (sym more) (least_lesser before end.now least.now c.loop-end.invariant.least (sym compared ∙ w.if-is_less.ensures.0 refl)));
          }
      | else-is_less w ↦
          let is : c.if-is_less.least.now ≡ least.now = ap (λ b. b.now) w.least-is in
          record {
            member = λ some. subst (Contains (map (λ x. x.now) ends)) (sym is) (c.loop-end.invariant.member some);
            least = subst (HasLeastHash (map (λ x. x.now) (take (i + 1) ends))) (sym is)
                (subst (λ (bs : List Block). HasLeastHash bs least.now) (sym more) (least_stays before end.now least.now c.loop-end.invariant.least (λ less. let e : false ≡ true = w.if-is_less.ensures.1 (compared ∙ less) in cc)));
          }
    ]
