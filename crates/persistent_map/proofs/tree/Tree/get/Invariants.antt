use Rattle.std.proofs.Common.{◌≡◌}
use Rattle.std.specs.FinMap.{find}
use Rattle.persistent_map.specs.Order.{Rise}
use Rattle.persistent_map.proofs.tree.Tree.get.Given as goal

-- where the whole rises, so does what is left to search, and the key is found there as it is in the whole
abbrev pub invariant-loop-node : goal.invariant-loop-node
invariant-loop-node g l =
    Rise g.K.Ord.cmp l.fn.self → Rise g.K.Ord.cmp l.tree × (find g.K.Ord.cmp l.key l.fn.self ≡ find g.K.Ord.cmp l.key l.tree)
