use Rattle.std.proofs.Common.{map, ap, ◌∙◌, arith}
use Rattle.model.specs.Cbor.{items_nesting, items_of}
use Rattle.model.specs.Script.{item_of_script}
use Rattle.tx.proofs.Depths.{scripts_nest, some_there}
use Rattle.tx.proofs.witnesses.Witnesses.scripts_nesting.Goals as goal

pub returns-clause-deep : goal.returns-clause-deep
returns-clause-deep c =
    let scripts = c.args.self.now.scripts in
    scripts_nest scripts.items c.scripts_nesting.result (some_there scripts.items _ (omega (arith, scripts.ok.0)) (c.if-is_empty.ensures {u = tt}))
    (c.scripts_nesting.ensures.deep ∙ ap (λ ss. items_nesting (items_of (map item_of_script ss))) c.deref.ensures.value)
