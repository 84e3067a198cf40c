use Rattle.std.proofs.Common.{◌≡◌, ◌+◌, drop, refl, sym, ap, ◌∙◌, List, ℕ}
use Rattle.watching.specs.Histories.{with_entry}
use Rattle.watching.specs.Changes.{all_put_back}
use Rattle.watching.specs.Advances.{with_histories}
use Rattle.watching.specs.View.{tables_of}
use Rattle.watching.specs.declared.advance.Advance.{Advance}
use Rattle.watching.proofs.Advancing.{one_taken, all_taken, made_entered, one_made_entered, none_made_entered}
use Rattle.watching.proofs.advance.Advance.enter_made.Goals as goal
use Rattle.watching.proofs.advance.Advance.enter_made.Goals.{then-watches+in_ok-advance, else-watches}

pub loop-output-preserved : goal.loop-output-preserved
loop-output-preserved c =
    let m = c.args.entry.now.inclusion in
    let id = c.args.entry.now.id in
    let which = c.args.which.now in
    let old = tables_of c.args.self.tables in
    let now = tables_of c.loop-output.advance.tables in
    let new = tables_of c.if-watches.advance.tables in
    let xs = c.args.outputs.now in
    let i = c.loop-output.output-index in
    let x = c.output-item.result in
    let rest = drop (i + 1) xs in
    elim c.if-watches.branch [
      | then-watches+in_ok-advance w ↦
          let is : new ≡ with_histories (with_entry m id w.of.result now.histories) now = ap (λ (a : Advance). tables_of a.tables) w.advance-is ∙ w.in_ok-advance.ensures.now in
          let own = is ∙ ap (λ (o : List ℕ). with_histories (with_entry m id o now.histories) now) w.of.ensures in
          record {
            part = one_taken (made_entered m id which) old now xs i new x c.loop-output-test.true c.output-item.is (one_made_entered m id which now new x rest (sym w.if-watches.ensures) own) c.loop-output.invariant.part;
            back = ap (λ (a : Advance). all_put_back a.changes.items (tables_of a.tables)) w.advance-is ∙ w.in_ok-advance.ensures.back ∙ c.loop-output.invariant.back;
          }
      | else-watches w ↦
          let is : now ≡ new = ap (λ (a : Advance). tables_of a.tables) (sym w.advance-is) in
          record {
            part = one_taken (made_entered m id which) old now xs i new x c.loop-output-test.true c.output-item.is
                (none_made_entered m id which now x rest (sym w.if-watches.ensures) ∙ ap (made_entered m id which rest) is) c.loop-output.invariant.part;
            back = ap (λ (a : Advance). all_put_back a.changes.items (tables_of a.tables)) w.advance-is ∙ c.loop-output.invariant.back;
          }
    ]

pub returns : goal.returns
returns c =
    let m = c.args.entry.now.inclusion in
    let id = c.args.entry.now.id in
    record {
      now = all_taken (made_entered m id c.args.which.now) (tables_of c.args.self.tables) (tables_of c.loop-output.advance.tables) c.args.outputs.now c.loop-output.output-index refl c.loop-output-test.false c.loop-output.invariant.part;
      back = c.loop-output.invariant.back;
    }
