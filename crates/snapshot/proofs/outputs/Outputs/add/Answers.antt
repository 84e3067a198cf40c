use Rattle.std.proofs.Common.{◌≡◌, ◌∷◌, [], ◌++◌, Some, None}
use Rattle.std.specs.FinMap as finite
use Rattle.model.specs.Transaction.{input_cmp}
use Rattle.tx.specs.View.{input_of, output_of}
use Rattle.snapshot.proofs.RisingLemmas.{one_added, ends_there, less_if}
use Rattle.snapshot.proofs.outputs.Outputs.add.Goals as goal
use Rattle.snapshot.proofs.outputs.Outputs.add.Goals.{in-Some+else-not-comes_before, in-None}

pub invariant_of-self-2 : goal.invariant_of-self-2
invariant_of-self-2 c =
    let added : finite.entries c.insert.new.self ≡ finite.entries c.args.self.now ++ (input_of c.args.input, output_of c.args.output) ∷ [] = elim c.match-self.branch [
      | in-Some+else-not-comes_before w ↦
          let order = less_if (input_cmp (input_of w.in-Some.last) (input_of c.args.input)) w.comes_before.result w.comes_before.ensures w.if-not-comes_before.false in
          one_added c.args.self.now c.self.inside.utxo c.insert.new.self (Some (input_of w.in-Some.last)) (input_of c.args.input) (output_of c.args.output) c.self.view_is (rw w.in-Some.is at c.self.invariant) order c.in_ok-insert.ensures.ok
      | in-None w ↦ one_added c.args.self.now c.self.inside.utxo c.insert.new.self None (input_of c.args.input) (output_of c.args.output) c.self.view_is (rw w.in-None.is at c.self.invariant) tt c.in_ok-insert.ensures.ok
    ] in
    ends_there c.args.self.now c.insert.new.self (input_of c.args.input) (output_of c.args.output) added

pub returns-clause-ok : goal.returns-clause-ok
returns-clause-ok c =
    elim c.match-self.branch [
      | in-Some+else-not-comes_before w ↦
          let order = less_if (input_cmp (input_of w.in-Some.last) (input_of c.args.input)) w.comes_before.result w.comes_before.ensures w.if-not-comes_before.false in
          one_added c.args.self.now c.self.inside.utxo c.insert.new.self (Some (input_of w.in-Some.last)) (input_of c.args.input) (output_of c.args.output) c.self.view_is (rw w.in-Some.is at c.self.invariant) order c.in_ok-insert.ensures.ok
      | in-None w ↦ one_added c.args.self.now c.self.inside.utxo c.insert.new.self None (input_of c.args.input) (output_of c.args.output) c.self.view_is (rw w.in-None.is at c.self.invariant) tt c.in_ok-insert.ensures.ok
    ]
