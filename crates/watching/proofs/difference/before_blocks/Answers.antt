use Rattle.std.proofs.Common.{◌≡◌, List, [], ◌∷◌, Option, Some, None, Bor, refl, ap, ◌∙◌}
use Rattle.std.specs.Option.{MatchOption}
use Rattle.watching.specs.Changes.{Difference, all_put_back}
use Rattle.watching.specs.View.{tables_of}
use Rattle.watching.proofs.Stepping.{none_undone, one_undone, not_yet, all_undone}
use Rattle.watching.proofs.difference.before_blocks.Goals as goal
use Rattle.watching.proofs.difference.before_blocks.Goals.{in-Some+in_ok-before, in_default}

-- where there is no first one, none is left
emptied : (older rest : List Difference) (r : Option (Bor Difference)) → MatchOption r ((older ≡ []) × (rest ≡ [])) (λ x. older ≡ x.now ∷ rest) → ((x : Bor Difference) → r ≡ Some x → ⊥) → older ≡ []
emptied older rest None ends none = ends.0
emptied older rest (Some x) ends none = absurd (none x refl)

pub loop-init : goal.loop-init
loop-init c = none_undone c.args.differences.now c.iter-older.result (tables_of c.args.tables) c.iter-older.ensures.rest

pub loop-preserved : goal.loop-preserved
loop-preserved c =
    let now = tables_of c.loop.before in
    elim c.match-next.branch [
      | in-Some+in_ok-before w ↦
          let first = rw w.in-Some.is at c.next.ensures.steps in
          let is = ap tables_of w.before-is ∙ w.in_ok-before.ensures ∙ ap (λ cs. all_put_back cs now) w.deref.ensures.value ∙ ap (λ (d : Difference). all_put_back d.changes now) w.difference.view_is in
          one_undone c.args.differences.now c.loop.older c.next.new.self w.in-Some.difference.now (tables_of c.args.tables) now (tables_of c.match-next.before) c.loop.counter first is c.loop.invariant
      | in_default w ↦
          absurd (not_yet c.args.differences.now c.loop.older (tables_of c.args.tables) now c.loop.counter c.args.back c.loop.invariant c.requires c.loop-test.true
          (emptied c.loop.older c.next.new.self c.next.result c.next.ensures.steps w.in_default.not-Some))
    ]

pub returns : goal.returns
returns c = all_undone c.args.differences.now c.loop.older (tables_of c.args.tables) (tables_of c.loop.before) c.loop.counter c.args.back c.loop.auto.counter-end c.loop-test.false c.loop.invariant
