use Rattle.std.proofs.Common.{◌∷◌, length, sym, ap, ◌∙◌, arith}
use Rattle.std.specs.declared.option.Option.TheVariants.{Some}
use Rattle.persistent_map.specs.After.{after}
use Rattle.persistent_map.proofs.After.{step, met}
use Rattle.persistent_map.proofs.iter.IterIterator.next.Goals as goal

pub returns-clause-steps : goal.returns-clause-steps
returns-clause-steps g c =
    let n = c.in_ok-node.node.now in
    let tree = c.self.inside.tree.now in
    let found = met c.first_after.result c.in_ok-node.node _ (c.first_after.ensures c.self.invariant) c.in_ok-node.was in
    sym c.self.view_is
    ∙ step g.met.K.Ord.total c.self.inside.last tree (n.key, n.value.value) c.self.invariant found
    ∙ ap (λ v. (n.key, v) ∷ after g.K.Ord.cmp (Some n.key) tree) (sym c.deref.ensures)

pub returns-clause-goes : goal.returns-clause-goes
returns-clause-goes g c =
    let one_less = ap length (returns-clause-steps g c) in
    record { on = λ _. (tt, tt, omega (arith, one_less)); keeps = tt; rests = λ _. tt }
