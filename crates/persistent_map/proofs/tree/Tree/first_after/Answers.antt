use Rattle.std.proofs.Common.{sym, ◌∙◌}
use Rattle.persistent_map.proofs.After.{here_or_left, on_the_right, met_here, met_early}
use Rattle.persistent_map.proofs.Split.{rise_left, rise_right}
use Rattle.persistent_map.proofs.tree.Tree.first_after.Goals as goal

pub loop-node-preserved-then-is_after : goal.loop-node-preserved-then-is_after
loop-node-preserved-then-is_after g c = λ rise.
    let n = c.in-Some.node.now in
    let es = c.loop-node.tree.now in
    let i = c.loop-node.invariant rise in
    let late = sym c.is_after.ensures ∙ c.if-is_after.true in (
      rise_left g.K.Ord.cmp es n.left (n.key, n.value.value) n.right c.in-Some.ensures i.0,
      met_here _ _ _ _ _ i.1 (here_or_left g.K.Ord.cmp c.args.last.now es n.left (n.key, n.value.value) n.right c.in-Some.ensures late),
    )

pub loop-node-preserved : goal.loop-node-preserved
loop-node-preserved g c = λ rise.
    let n = c.in-Some.node.now in
    let es = c.loop-node.tree.now in
    let i = c.loop-node.invariant rise in
    let early = sym c.is_after.ensures ∙ c.if-is_after.false in (
      rise_right g.K.Ord.cmp es n.left (n.key, n.value.value) n.right c.in-Some.ensures i.0,
      met_early _ _ _ _ i.1 (on_the_right g.met.K.Ord.total c.args.last.now es n.left (n.key, n.value.value) n.right c.in-Some.ensures i.0 early),
    )
