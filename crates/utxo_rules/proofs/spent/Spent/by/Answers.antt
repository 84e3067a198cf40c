use Rattle.std.proofs.Common.{◌≡◌, Bor, Option, Some, None, option_map, refl, sym, arith}
use Rattle.std.specs.Prelude.{option_copied}
use Rattle.model.specs.Transaction.{Output}
use Rattle.tx.specs.View.{output_of}
use Rattle.tx.specs.declared.output.Output.{Output as CodeOutput}
use Rattle.utxo_rules.proofs.Gathered.{spent_more, spent_none}
use Rattle.utxo_rules.proofs.spent.Spent.by.Goals as goal
use Rattle.utxo_rules.proofs.spent.Spent.by.Goals.{in-Some+in_ok-add, in_default}

none_found : (r : Option (Bor CodeOutput)) (found : Option Output) → option_map output_of (option_copied r) ≡ found → ((o : Bor CodeOutput) → r ≡ Some o → ⊥) → found ≡ None
none_found None found is none = sym is
none_found (Some o) found is none = absurd (none o refl)

pub loop-input-preserved : goal.loop-input-preserved
loop-input-preserved c =
    elim c.match-get.branch [
      | in-Some+in_ok-add w ↦ rw w.spent-is (
        spent_more c.args.utxo.now c.loop-input.spent w.add.new.self (output_of w.in-Some.output.now) c.args.inputs.now c.loop-input.input-index c.input-item.result c.loop-input-test.true c.input-item.is (sym w.in-Some.ensures) w.in_ok-add.ensures c.loop-input.invariant.0,
        omega (arith, w.in_ok-add.ensures.counted, c.loop-input.invariant.1),
      )
      | in_default w ↦ rw w.spent-is (
        spent_none c.args.utxo.now c.loop-input.spent c.args.inputs.now c.loop-input.input-index c.input-item.result c.loop-input-test.true c.input-item.is (none_found c.get.result _ c.get.ensures w.in_default.not-Some) c.loop-input.invariant.0,
        omega (arith, c.loop-input.invariant.1),
      )
    ]
