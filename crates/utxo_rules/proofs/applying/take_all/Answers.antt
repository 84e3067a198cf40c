use Rattle.std.proofs.Common.{ap, ◌∙◌}
use Rattle.model.specs.Utxo.{output_at}
use Rattle.tx.specs.View.{input_of}
use Rattle.utxo_rules.proofs.Changing.{none_taken, one_taken, more_some, more_none, all_taken}
use Rattle.utxo_rules.proofs.applying.take_all.Goals as goal
use Rattle.utxo_rules.proofs.applying.take_all.Goals.{in-Some+in_ok-push, in_default}

pub loop-input-init : goal.loop-input-init
loop-input-init c = none_taken c.args.utxo.now c.no_pairs-taken.result.items c.args.inputs.now c.no_pairs-taken.ensures

pub loop-input-preserved : goal.loop-input-preserved
loop-input-preserved c =
    let x = input_of c.input-item.result in
    let r = output_at c.loop-input.utxo x in
    let step = one_taken c.args.utxo.now c.loop-input.utxo c.take.new.self c.loop-input.taken.items c.match-branch-2.taken.items c.args.inputs.now c.loop-input.input-index c.input-item.result
    c.requires c.loop-input-test.true c.input-item.is c.in_ok-pair.ensures.ok in
    elim c.match-branch-2.branch [
      | in-Some+in_ok-push w ↦
          step (more_some x r c.in_ok-pair.field-0 w.in-Some.pair c.loop-input.taken.items c.match-branch-2.taken.items c.in_ok-pair.ensures.found w.in-Some.is (ap (λ v. v.items) w.taken-is ∙ w.in_ok-push.ensures.items)) c.loop-input.invariant
      | in_default w ↦
          step (more_none x r c.in_ok-pair.field-0 c.loop-input.taken.items c.match-branch-2.taken.items c.in_ok-pair.ensures.found w.in_default.not-Some (ap (λ v. v.items) w.taken-is)) c.loop-input.invariant
    ]

pub returns-clause-after : goal.returns-clause-after
returns-clause-after c = (all_taken c.args.utxo.now c.loop-input.utxo c.loop-input.taken.items c.args.inputs.now c.loop-input.input-index c.loop-input-test.false c.loop-input.invariant).0

pub returns-clause-taken : goal.returns-clause-taken
returns-clause-taken c = (all_taken c.args.utxo.now c.loop-input.utxo c.loop-input.taken.items c.args.inputs.now c.loop-input.input-index c.loop-input-test.false c.loop-input.invariant).1
