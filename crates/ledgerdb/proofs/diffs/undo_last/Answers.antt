use Rattle.std.proofs.Common.{◌≡◌, List, [], Option, Some, None, Bor, refl, ◌∙◌}
use Rattle.std.specs.Option.{MatchOption}
use Rattle.std.specs.Prelude.{◌++◌, ◌∷◌}
use Rattle.ledger.specs.BlockDiffs.{BlockDiff}
use Rattle.ledgerdb.proofs.Along.{none_back, one_back, not_yet, all_back}
use Rattle.ledgerdb.proofs.diffs.undo_last.Goals as goal
use Rattle.ledgerdb.proofs.diffs.undo_last.Goals.{in-Some+in_ok-before, in_default}

-- where there is no last one, none is left
emptied : (older rest : List BlockDiff) (r : Option (Bor BlockDiff)) → MatchOption r ((older ≡ []) × (rest ≡ [])) (λ x. older ≡ rest ++ x.now ∷ []) → ((x : Bor BlockDiff) → r ≡ Some x → ⊥) → older ≡ []
emptied older rest None steps none = steps.0
emptied older rest (Some x) steps none = absurd (none x refl)

pub loop-init : goal.loop-init
loop-init c = none_back c.args.diffs.now c.iter-older.result c.args.state c.iter-older.ensures.rest

pub loop-preserved : goal.loop-preserved
loop-preserved c =
    elim c.match-next_back.branch [
      | in-Some+in_ok-before w ↦
          let last = rw w.in-Some.is at c.next_back.ensures.steps in
          one_back c.args.diffs.now c.loop.older c.next_back.new.self w.in-Some.diff.now c.args.state c.loop.before c.match-next_back.before c.loop.counter last (w.before-is ∙ w.in_ok-before.ensures) c.loop.invariant
      | in_default w ↦
          absurd (not_yet c.args.diffs.now c.loop.older c.args.state c.loop.before c.loop.counter c.args.back c.loop.invariant c.requires c.loop-test.true
          (emptied c.loop.older c.next_back.new.self c.next_back.result c.next_back.ensures.steps w.in_default.not-Some))
    ]

pub returns : goal.returns
returns c = all_back c.args.diffs.now c.loop.older c.args.state c.loop.before c.loop.counter c.args.back c.requires c.loop.auto.counter-end c.loop-test.false c.loop.invariant
