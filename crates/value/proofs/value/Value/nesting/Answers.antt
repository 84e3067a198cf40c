use Rattle.std.proofs.Common.{◌≡◌, map, sym, subst, arith}
use Rattle.model.specs.Cbor.{nesting}
use Rattle.model.specs.Value.{item_of_value}
use Rattle.value.specs.View.{policy_of}
use Rattle.value.proofs.Nesting.{value_nests, some_seen}
use Rattle.value.proofs.value.Value.nesting.Goals as goal

pub returns-clause-deep : goal.returns-clause-deep
returns-clause-deep c =
    let held = c.self.inside in
    let some = some_seen policy_of held.assets.items _ (omega (arith, held.assets.ok.0)) (c.if-is_empty.ensures {u = tt}) in
    subst (λ value. 4 ≡ nesting (item_of_value value)) c.self.view_is (sym (value_nests held.coin (map policy_of held.assets.items) some c.self.invariant.is_value))
