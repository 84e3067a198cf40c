use Rattle.std.proofs.Common.{◌≡◌, ◌+◌, drop, Option, Some, None, refl, sym, ap, ◌∙◌}
use Rattle.watching.specs.Histories.{with_entry}
use Rattle.watching.specs.Changes.{all_put_back}
use Rattle.watching.specs.Advances.{with_histories}
use Rattle.watching.specs.View.{tables_of}
use Rattle.watching.specs.declared.advance.Advance.{Advance}
use Rattle.watching.proofs.Advancing.{one_taken, all_taken, spent_entered, one_spent_entered, none_spent_entered}
use Rattle.watching.proofs.advance.Advance.enter_spent.Goals as goal
use Rattle.watching.proofs.advance.Advance.enter_spent.Goals.{in-Some+in_ok-advance, in_default}

no_some : {X : Type 0} (r : Option X) → ((x : X) → r ≡ Some x → ⊥) → r ≡ None
no_some None not = refl
no_some (Some x) not = absurd (not x refl)

pub loop-input-preserved : goal.loop-input-preserved
loop-input-preserved c =
    let m = c.args.entry.now.inclusion in
    let id = c.args.entry.now.id in
    let old = tables_of c.args.self.tables in
    let now = tables_of c.loop-input.advance.tables in
    let new = tables_of c.match-owner_at.advance.tables in
    let xs = c.args.inputs.now in
    let i = c.loop-input.input-index in
    let x = c.input-item.result in
    let rest = drop (i + 1) xs in
    elim c.match-owner_at.branch [
      | in-Some+in_ok-advance w ↦
          let is : new ≡ with_histories (with_entry m id w.in-Some.owner now.histories) now = ap (λ (a : Advance). tables_of a.tables) w.advance-is ∙ w.in_ok-advance.ensures.now in
          record {
            part = one_taken (spent_entered m id) old now xs i new x c.loop-input-test.true c.input-item.is (one_spent_entered m id now new x rest w.in-Some.owner (sym c.owner_at.ensures ∙ w.in-Some.is) is) c.loop-input.invariant.part;
            back = ap (λ (a : Advance). all_put_back a.changes.items (tables_of a.tables)) w.advance-is ∙ w.in_ok-advance.ensures.back ∙ c.loop-input.invariant.back;
          }
      | in_default w ↦
          let is : now ≡ new = ap (λ (a : Advance). tables_of a.tables) (sym w.advance-is) in
          record {
            part = one_taken (spent_entered m id) old now xs i new x c.loop-input-test.true c.input-item.is
                (none_spent_entered m id now x rest (sym c.owner_at.ensures ∙ no_some c.owner_at.result w.in_default.not-Some) ∙ ap (spent_entered m id rest) is) c.loop-input.invariant.part;
            back = ap (λ (a : Advance). all_put_back a.changes.items (tables_of a.tables)) w.advance-is ∙ c.loop-input.invariant.back;
          }
    ]

pub returns : goal.returns
returns c =
    let m = c.args.entry.now.inclusion in
    let id = c.args.entry.now.id in
    record {
      now = all_taken (spent_entered m id) (tables_of c.args.self.tables) (tables_of c.loop-input.advance.tables) c.args.inputs.now c.loop-input.input-index refl c.loop-input-test.false c.loop-input.invariant.part;
      back = c.loop-input.invariant.back;
    }
