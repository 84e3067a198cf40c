use Rattle.std.proofs.Common.{◌≡◌, true, false, List, [], ◌∷◌, Option, Some, None, Bor, refl, ap, ◌∙◌}
use Rattle.std.specs.Option.{MatchOption}
use Rattle.block.specs.View.{tip_of}
use Rattle.ident.specs.PointView.{point_of}
use Rattle.model.specs.Chain.{Tip}
use Rattle.watching.specs.Chains.{point_at}
use Rattle.watching.specs.Changes.{Difference}
use Rattle.watching.proofs.Stepping.{one_searched, found_tip, more_to_search}
use Rattle.watching.proofs.difference.find.Goals as goal
use Rattle.watching.proofs.difference.find.Goals.{in-Some+else-is_at-2, in_default}

-- where there is no first one, none is left
emptied : (older rest : List Difference) (r : Option (Bor Difference)) → MatchOption r ((older ≡ []) × (rest ≡ [])) (λ x. older ≡ x.now ∷ rest) → ((x : Bor Difference) → r ≡ Some x → ⊥) → older ≡ []
emptied older rest None ends none = ends.0
emptied older rest (Some x) ends none = absurd (none x refl)

pub returns-then-is_at-2-clause-tip : goal.returns-then-is_at-2-clause-tip
returns-then-is_at-2-clause-tip c =
    let first = rw c.in-Some.is at c.next.ensures.steps in
    ap (λ (s : Difference). s.tip) c.difference.view_is
    ∙ found_tip (λ t. point_at t ≡ point_of c.args.point.now) (tip_of c.args.tip.now) c.args.differences.now c.loop-back.older c.next.new.self c.in-Some.difference.now c.loop-back.back first c.loop-back.invariant

pub loop-back-preserved : goal.loop-back-preserved
loop-back-preserved c =
    let Ends : Tip → Type 0 = λ t. point_at t ≡ point_of c.args.point.now in
    elim c.match-next.branch [
      | in-Some+else-is_at-2 w ↦
          let first = rw w.in-Some.is at c.next.ensures.steps in
          one_searched Ends (tip_of c.args.tip.now) c.args.differences.now c.loop-back.older c.next.new.self w.in-Some.difference.now c.loop-back.back first
          (λ ends. let no : false ≡ true = w.if-is_at-2.ensures.1 (ap (λ (s : Difference). point_at s.tip) w.difference.view_is ∙ ends) in cc)
          c.loop-back.invariant
      | in_default w ↦
          absurd (more_to_search Ends (tip_of c.args.tip.now) c.args.differences.now c.loop-back.older c.loop-back.back c.loop-back.invariant (rw c.len-back-end.ensures.value at c.loop-back-test.true)
          (emptied c.loop-back.older c.next.new.self c.next.result c.next.ensures.steps w.in_default.not-Some))
    ]
