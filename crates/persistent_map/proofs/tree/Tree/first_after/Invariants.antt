use Rattle.std.proofs.Common.{◌≡◌}
use Rattle.std.specs.Option.{option_map}
use Rattle.persistent_map.specs.After.{after, first_of, entry_of}
use Rattle.persistent_map.specs.Order.{Rise}
use Rattle.persistent_map.proofs.After.{or_else}
use Rattle.persistent_map.proofs.tree.Tree.first_after.Given as goal

-- where the whole rises, so does what is left to search, and the first is there, or else the one that was met last
abbrev pub invariant-loop-node : goal.invariant-loop-node
invariant-loop-node g l =
    Rise g.K.Ord.cmp l.fn.self
    → Rise g.K.Ord.cmp l.tree × (first_of (after g.K.Ord.cmp l.last l.fn.self) ≡ or_else (first_of (after g.K.Ord.cmp l.last l.tree)) (option_map (λ node. entry_of node.now) l.found))
