use Rattle.std.proofs.Common.{◌+◌, drop, ◌∙◌}
use Rattle.watching.specs.View.{tables_of}
use Rattle.watching.proofs.Advancing.{one_taken, all_taken, all_spent, one_spent, none_spent}
use Rattle.watching.proofs.advance.Advance.spend_all.Goals as goal

pub loop-input-preserved : goal.loop-input-preserved
loop-input-preserved c =
    let old = tables_of c.args.self.tables in
    let now = tables_of c.loop-input.advance.tables in
    let new = tables_of c.in_ok-advance.advance.tables in
    let xs = c.args.inputs.now in
    let i = c.loop-input.input-index in
    let x = c.input-item.result in
    record {
      part = one_taken all_spent old now xs i new x c.loop-input-test.true c.input-item.is (one_spent now new x (drop (i + 1) xs) c.in_ok-advance.ensures.now) c.loop-input.invariant.part;
      back = c.in_ok-advance.ensures.back ∙ c.loop-input.invariant.back;
    }

pub returns : goal.returns
returns c =
    let now = tables_of c.loop-input.advance.tables in
    record {
      now = all_taken all_spent (tables_of c.args.self.tables) now c.args.inputs.now c.loop-input.input-index (none_spent now) c.loop-input-test.false c.loop-input.invariant.part;
      back = c.loop-input.invariant.back;
    }
