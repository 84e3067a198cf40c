use Rattle.std.proofs.Common.{◌≡◌, ◌∙◌, ap, sym, not, ltb, ◌&&◌}
use Rattle.ed25519.specs.Points.{order, has_small_order}
use Rattle.ed25519.specs.Verifying.{is_admissible}
use Rattle.ed25519.proofs.Roots.{and_true, and_false}
use Rattle.ed25519.proofs.verification.is_admissible.Goals as goal
use Rattle.ed25519.proofs.verification.is_admissible.Goals.{then-is_below_order, else-is_below_order}

pub returns-then-not-has_small_order : goal.returns-then-not-has_small_order
unfolding is_admissible
returns-then-not-has_small_order c =
    let below = ltb c.args.s.now order in
    let key = not (has_small_order c.args.a.now) in
    let both : c.if-is_below_order.value ≡ (below && key) = elim c.if-is_below_order.branch [
      | then-is_below_order w ↦ and_true below key c.if-is_below_order.value (cc) (cc)
      | else-is_below_order w ↦ and_false below key c.if-is_below_order.value (cc) (cc)
    ] in
    and_true (below && key) (not (has_small_order c.args.r.now)) _ (sym both ∙ c.if-not-has_small_order.true)
    (ap not c.has_small_order-then-not-has_small_order.ensures)

pub returns-else-not-has_small_order : goal.returns-else-not-has_small_order
unfolding is_admissible
returns-else-not-has_small_order c =
    let below = ltb c.args.s.now order in
    let key = not (has_small_order c.args.a.now) in
    let both : c.if-is_below_order.value ≡ (below && key) = elim c.if-is_below_order.branch [
      | then-is_below_order w ↦ and_true below key c.if-is_below_order.value (cc) (cc)
      | else-is_below_order w ↦ and_false below key c.if-is_below_order.value (cc) (cc)
    ] in
    and_false (below && key) (not (has_small_order c.args.r.now)) _ (sym both ∙ c.if-not-has_small_order.false)
    c.if-not-has_small_order.false
