use Rattle.std.proofs.Common.{◌∷◌, ◌++◌, Some, refl, sym, ap, ◌∙◌}
use Rattle.persistent_map.specs.Entries.{entries_of_node}
use Rattle.persistent_map.proofs.Split.{rise_left, rise_right, split_less, split_equal, split_greater}
use Rattle.persistent_map.proofs.+insert.Goals as goal

pub node::Node::insert-returns-in_ok-old-in-Less-clause-found : goal.node::Node::insert-returns-in_ok-old-in-Less-clause-found
node::Node::insert-returns-in_ok-old-in-Less-clause-found g t c = λ rise.
    let n = c.args.self.now in
    let order = sym c.cmp.ensures ∙ c.in-Less.is in
    let below = rise_left g.K.Ord.cmp (entries_of_node n) n.left (n.key, n.value.value) n.right refl rise in
    c.in_ok-old-in-Less.ensures.found below ∙ sym (split_less g.met.K.Ord.total c.args.key.now (entries_of_node n) n.left (n.key, n.value.value) n.right refl rise order).found

pub node::Node::insert-returns-in_ok-old-in-Less-clause-ok : goal.node::Node::insert-returns-in_ok-old-in-Less-clause-ok
node::Node::insert-returns-in_ok-old-in-Less-clause-ok g t c = λ rise.
    let n = c.args.self.now in
    let order = sym c.cmp.ensures ∙ c.in-Less.is in
    let below = rise_left g.K.Ord.cmp (entries_of_node n) n.left (n.key, n.value.value) n.right refl rise in
    c.balance.ensures ∙ ap (λ l. l ++ (n.key, n.value.value) ∷ n.right) (c.in_ok-old-in-Less.ensures.ok below)
    ∙ sym ((split_less g.met.K.Ord.total c.args.key.now (entries_of_node n) n.left (n.key, n.value.value) n.right refl rise order).put_in c.args.value.value)

pub node::Node::insert-returns-in-Equal-clause-found : goal.node::Node::insert-returns-in-Equal-clause-found
node::Node::insert-returns-in-Equal-clause-found g t c = λ rise.
    let n = c.args.self.now in
    let order = sym c.cmp.ensures ∙ c.in-Equal.is in
    ap (λ a. Some a.value) c.replace.ensures.value ∙ sym (split_equal g.met.K.Ord.total c.args.key.now (entries_of_node n) n.left (n.key, n.value.value) n.right refl rise order).found

pub node::Node::insert-returns-in-Equal-clause-ok : goal.node::Node::insert-returns-in-Equal-clause-ok
node::Node::insert-returns-in-Equal-clause-ok g t c = λ rise.
    let n = c.args.self.now in
    let order = sym c.cmp.ensures ∙ c.in-Equal.is in
    ap (λ a. n.left ++ (n.key, a.value) ∷ n.right) c.replace.ensures.after
    ∙ sym ((split_equal g.met.K.Ord.total c.args.key.now (entries_of_node n) n.left (n.key, n.value.value) n.right refl rise order).put_in c.args.value.value)

pub node::Node::insert-returns-in_ok-old-in-Greater-clause-found : goal.node::Node::insert-returns-in_ok-old-in-Greater-clause-found
node::Node::insert-returns-in_ok-old-in-Greater-clause-found g t c = λ rise.
    let n = c.args.self.now in
    let order = sym c.cmp.ensures ∙ c.in-Greater.is in
    let above = rise_right g.K.Ord.cmp (entries_of_node n) n.left (n.key, n.value.value) n.right refl rise in
    c.in_ok-old-in-Greater.ensures.found above ∙ sym (split_greater g.met.K.Ord.total c.args.key.now (entries_of_node n) n.left (n.key, n.value.value) n.right refl rise order).found

pub node::Node::insert-returns-in_ok-old-in-Greater-clause-ok : goal.node::Node::insert-returns-in_ok-old-in-Greater-clause-ok
node::Node::insert-returns-in_ok-old-in-Greater-clause-ok g t c = λ rise.
    let n = c.args.self.now in
    let order = sym c.cmp.ensures ∙ c.in-Greater.is in
    let above = rise_right g.K.Ord.cmp (entries_of_node n) n.left (n.key, n.value.value) n.right refl rise in
    c.balance-in-Greater.ensures ∙ ap (λ r. n.left ++ (n.key, n.value.value) ∷ r) (c.in_ok-old-in-Greater.ensures.ok above)
    ∙ sym ((split_greater g.met.K.Ord.total c.args.key.now (entries_of_node n) n.left (n.key, n.value.value) n.right refl rise order).put_in c.args.value.value)
