use Rattle.std.proofs.Common.{◌∷◌, ◌++◌, refl, sym, ap, ◌∙◌}
use Rattle.std.specs.Option.{option_map}
use Rattle.std.specs.Arc.{arc_value}
use Rattle.persistent_map.specs.Entries.{entries_of_node}
use Rattle.persistent_map.proofs.Split.{rise_left, rise_right, split_less, split_greater, is_greater, there_left, there_right, whatever_err}
use Rattle.persistent_map.proofs.+remove.Goals as goal
use Rattle.persistent_map.proofs.+remove.Goals.{node::Node::remove_beside-in-Less+in_ok-old-in-Less, node::Node::remove_beside-in_default+in_ok-old-in_default}

pub node::Node::remove_beside-returns-clause-found : goal.node::Node::remove_beside-returns-clause-found
node::Node::remove_beside-returns-clause-found g t c = λ beside rise.
    let n = c.args.self.now in
    elim c.match-order.branch [
      | node::Node::remove_beside-in-Less+in_ok-old-in-Less w ↦
          let below = rise_left g.K.Ord.cmp (entries_of_node n) n.left (n.key, n.value.value) n.right refl rise in
          ap (option_map arc_value) w.old-is ∙ w.in_ok-old-in-Less.ensures.found below
          ∙ sym (split_less g.met.K.Ord.total c.args.key.now (entries_of_node n) n.left (n.key, n.value.value) n.right refl rise (sym beside.0 ∙ w.in-Less.is)).found
      | node::Node::remove_beside-in_default+in_ok-old-in_default w ↦
          let above = rise_right g.K.Ord.cmp (entries_of_node n) n.left (n.key, n.value.value) n.right refl rise in
          let order = sym beside.0 ∙ is_greater c.args.order w.in_default.not-Less beside.1 in
          ap (option_map arc_value) w.old-is ∙ w.in_ok-old-in_default.ensures.found above
          ∙ sym (split_greater g.met.K.Ord.total c.args.key.now (entries_of_node n) n.left (n.key, n.value.value) n.right refl rise order).found
    ]

pub node::Node::remove_beside-returns-clause-ok : goal.node::Node::remove_beside-returns-clause-ok
node::Node::remove_beside-returns-clause-ok g t c = λ beside rise.
    let n = c.args.self.now in
    elim c.match-order.branch [
      | node::Node::remove_beside-in-Less+in_ok-old-in-Less w ↦
          let below = rise_left g.K.Ord.cmp (entries_of_node n) n.left (n.key, n.value.value) n.right refl rise in
          c.balance.ensures ∙ ap entries_of_node w.self-is ∙ ap (λ l. l ++ (n.key, n.value.value) ∷ n.right) (w.in_ok-old-in-Less.ensures.ok below)
          ∙ sym (split_less g.met.K.Ord.total c.args.key.now (entries_of_node n) n.left (n.key, n.value.value) n.right refl rise (sym beside.0 ∙ w.in-Less.is)).left_out
      | node::Node::remove_beside-in_default+in_ok-old-in_default w ↦
          let above = rise_right g.K.Ord.cmp (entries_of_node n) n.left (n.key, n.value.value) n.right refl rise in
          let order = sym beside.0 ∙ is_greater c.args.order w.in_default.not-Less beside.1 in
          c.balance.ensures ∙ ap entries_of_node w.self-is ∙ ap (λ r. n.left ++ (n.key, n.value.value) ∷ r) (w.in_ok-old-in_default.ensures.ok above)
          ∙ sym (split_greater g.met.K.Ord.total c.args.key.now (entries_of_node n) n.left (n.key, n.value.value) n.right refl rise order).left_out
    ]

pub node::Node::remove_beside-returns-in_err-old-in-Less-clause-there : goal.node::Node::remove_beside-returns-in_err-old-in-Less-clause-there
node::Node::remove_beside-returns-in_err-old-in-Less-clause-there g t c = λ beside.
    let n = c.args.self.now in
    whatever_err c.from_residual.result _ (there_left g.met.K.Ord.total c.args.key.now (entries_of_node n) n.left (n.key, n.value.value) n.right refl (sym beside.0 ∙ c.in-Less.is) c.in_err-old-in-Less.ensures.there)

pub node::Node::remove_beside-returns-in_err-old-in_default-clause-there : goal.node::Node::remove_beside-returns-in_err-old-in_default-clause-there
node::Node::remove_beside-returns-in_err-old-in_default-clause-there g t c = λ beside.
    let n = c.args.self.now in
    let order = sym beside.0 ∙ is_greater c.args.order c.in_default.not-Less beside.1 in
    whatever_err c.from_residual-in_err-old-in_default.result _ (there_right g.met.K.Ord.total c.args.key.now (entries_of_node n) n.left (n.key, n.value.value) n.right refl order c.in_err-old-in_default.ensures.there)
