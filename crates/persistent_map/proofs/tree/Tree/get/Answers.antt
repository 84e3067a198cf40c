use Rattle.std.proofs.Common.{Some, sym, ap, ◌∙◌}
use Rattle.persistent_map.proofs.Split.{rise_left, rise_right, split_less, split_equal, split_greater}
use Rattle.persistent_map.proofs.tree.Tree.get.Goals as goal

pub loop-node-preserved-in-Less : goal.loop-node-preserved-in-Less
loop-node-preserved-in-Less g c = λ rise.
    let n = c.in-Some.node.now in
    let es = c.loop-node.tree.now in
    let i = c.loop-node.invariant rise in
    let order = sym c.cmp.ensures ∙ c.in-Less.is in (
      rise_left g.K.Ord.cmp es n.left (n.key, n.value.value) n.right c.in-Some.ensures i.0,
      i.1 ∙ (split_less g.met.K.Ord.total c.args.key.now es n.left (n.key, n.value.value) n.right c.in-Some.ensures i.0 order).found,
    )

pub returns-in-Equal : goal.returns-in-Equal
returns-in-Equal g c = λ rise.
    let n = c.in-Some.node.now in
    let i = c.loop-node.invariant rise in
    let order = sym c.cmp.ensures ∙ c.in-Equal.is in
    let f = split_equal g.met.K.Ord.total c.args.key.now c.loop-node.tree.now n.left (n.key, n.value.value) n.right c.in-Some.ensures i.0 order in
    ap Some c.deref.ensures ∙ sym (i.1 ∙ f.found)

pub loop-node-preserved : goal.loop-node-preserved
loop-node-preserved g c = λ rise.
    let n = c.in-Some.node.now in
    let es = c.loop-node.tree.now in
    let i = c.loop-node.invariant rise in
    let order = sym c.cmp.ensures ∙ c.in-Greater.is in (
      rise_right g.K.Ord.cmp es n.left (n.key, n.value.value) n.right c.in-Some.ensures i.0,
      i.1 ∙ (split_greater g.met.K.Ord.total c.args.key.now es n.left (n.key, n.value.value) n.right c.in-Some.ensures i.0 order).found,
    )
