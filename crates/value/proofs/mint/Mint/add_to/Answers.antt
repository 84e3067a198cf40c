use Rattle.std.proofs.Common.{map}
use Rattle.value.specs.View.{policy_of}
use Rattle.value.proofs.RisingKeys.{mint_differs}
use Rattle.value.proofs.mint.Mint.add_to.Goals as goal

pub change-requires-clause-differ : goal.change-requires-clause-differ
change-requires-clause-differ c = rw c.deref.ensures.value (mint_differs (map policy_of c.self.inside.policies.items) c.self.invariant.has_text)
