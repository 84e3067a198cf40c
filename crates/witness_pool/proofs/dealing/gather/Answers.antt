use Rattle.std.proofs.Common.{◌++◌, ◌∷◌, [], sym, ◌∙◌, ap, append-nil, arith}
use Rattle.std.specs.Global.{Vec}
use Rattle.std.proofs.lemmas.Option.{same_Some}
use Rattle.witness_pool.proofs.Turns.{gathered_one, gathered_all}
use Rattle.witness_pool.proofs.dealing.gather.Goals as goal
use Rattle.witness_pool.proofs.dealing.gather.Goals.{in-Some+in_ok-push, in_default}

pub loop-init : goal.loop-init
loop-init g c = λ xs before some long is. (xs, [], sym (append-nil xs), c.in_ok-all.ensures.items, is, omega (arith, long))

pub returns : goal.returns
returns g c = λ xs start some long is. c.reverse.ensures.items ∙ gathered_all xs start _ c.loop.all.items c.args.count c.loop.counter (c.loop.invariant xs start some long is) c.loop-test.false

pub loop-preserved : goal.loop-preserved
loop-preserved g c = λ xs start some long is.
    gathered_one xs start _ _ c.loop.all.items c.match-branch-3.all.items c.args.count c.loop.counter c.in_ok-item.field-0 some (c.loop.invariant xs start some long is) c.loop-test.true c.in_ok-item.ensures
    (elim c.match-branch-3.branch [
      | in-Some+in_ok-push w ↦ λ x is_x. ap (λ (v : Vec _). v.items) w.all-is ∙ w.in_ok-push.ensures.items ∙ ap (λ (y : _). c.loop.all.items ++ y ∷ []) (same_Some w.in-Some.item x (sym w.in-Some.is ∙ is_x))
      | in_default w ↦ λ x is_x. absurd (w.in_default.not-Some x is_x)
    ])
