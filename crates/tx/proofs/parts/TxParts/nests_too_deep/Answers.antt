use Rattle.std.proofs.Common.{◌<◌, map, ltb, subst, arith}
use Rattle.std.proofs.lemmas.Bool.{ltb-true}
use Rattle.model.specs.Cbor.{items_of, items_nesting}
use Rattle.model.specs.Script.{item_of_script}
use Rattle.tx.specs.Making.{parts_of}
use Rattle.tx.specs.Parts.{HasDeepScript}
use Rattle.tx.proofs.Faults.{one_deep, on_true}
use Rattle.tx.proofs.parts.TxParts.nests_too_deep.Goals as goal

pub returns-clause-deep : goal.returns-clause-deep
returns-clause-deep c =
    on_true (ltb 61 c.max-2.result) (HasDeepScript (parts_of c.args.self.now))
    (λ test.
    let low = c.outputs_nesting-outputs.ensures.within in
    let few = c.nesting.ensures.within in
    let deep : 61 < items_nesting (items_of (map item_of_script c.deref-2.result.now)) =
    omega (arith, ltb-true 61 c.max-2.result test, c.max-2.ensures, c.max.ensures, c.scripts_nesting-scripts.ensures.deep, low, few) in
    one_deep c.args.self.now.scripts.items (subst (λ ss. 61 < items_nesting (items_of (map item_of_script ss))) c.deref-2.ensures.value deep))
