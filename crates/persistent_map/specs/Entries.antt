-- A tree as the list of its entries in order.
use Rattle.std.specs.Prelude.{List, [], ◌∷◌, ◌++◌}
use Rattle.persistent_map.specs.declared.node.Node.{Node}
use Rattle.persistent_map.specs.declared.tree.Link.{Link}
use Rattle.persistent_map.specs.declared.tree.Link.TheVariants.{Leaf, Fork}

module _ {K V : Type 0} where
  -- what is on the left, the node's own entry, and what is on the right
  abbrev pub entries_of_node : Node K V → List (K × V)
  entries_of_node n = n.left ++ (n.key, n.value.value) ∷ n.right

  abbrev pub entries_of : Link K V → List (K × V)
  entries_of Leaf = []
  entries_of (Fork weight node) = entries_of_node node.value
