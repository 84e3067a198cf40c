use Rattle.value.specs.View.{value_with}
use Rattle.value.proofs.RisingKeys.{value_differs}
use Rattle.value.proofs.value.Value.add_to.Goals as goal

pub change-requires-clause-differ : goal.change-requires-clause-differ
change-requires-clause-differ c = rw c.deref.ensures.value (value_differs (value_with c.self.inside.coin c.self.inside.assets.items) c.self.invariant.has_text)
