use Rattle.std.proofs.Common.{refl}
use Rattle.tx.specs.View.{input_of}
use Rattle.value.proofs.ForCallers.{some_seen}
use Rattle.tx.proofs.Depths.{inputs_nest}
use Rattle.tx.proofs.nesting.inputs_nesting.Goals as goal

pub returns-clause-deep : goal.returns-clause-deep
returns-clause-deep c = inputs_nest _ (some_seen input_of c.args.inputs.now _ refl (c.if-is_empty.ensures {u = tt}))
