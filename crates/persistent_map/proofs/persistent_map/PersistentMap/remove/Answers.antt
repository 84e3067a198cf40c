use Rattle.std.proofs.Common.{◌≡◌, ◌+◌, true, false, length, is_some, sym, ap, ◌∙◌, subst, arith}
use Rattle.std.specs.Arc.{arc_value}
use Rattle.persistent_map.specs.Order.{Rise, without}
use Rattle.persistent_map.proofs.Counts.{without_rises, without_counts}
use Rattle.persistent_map.proofs.persistent_map.PersistentMap.remove.Goals as goal
use Rattle.persistent_map.proofs.persistent_map.PersistentMap.remove.Goals.{then-is_some, else-is_some}

pub invariant_of-self-then-is_some : goal.invariant_of-self-then-is_some
invariant_of-self-then-is_some g c =
    let i = c.self.invariant in
    let old : is_some c.in_ok-old.old ≡ true = sym c.is_some.ensures ∙ c.if-is_some.true in
    let left_out = c.in_ok-old.ensures.ok i.0 in
    let counts : 1 + length (without g.K.Ord.cmp c.args.key.now c.self.inside.tree) ≡ length c.self.inside.tree =
    without_counts g.met.K.Ord.total arc_value c.in_ok-old.old c.args.key.now c.self.inside.tree true i.0 (c.in_ok-old.ensures.found i.0) old in
    (subst (Rise g.K.Ord.cmp) (sym left_out) (without_rises g.K.Ord.cmp c.args.key.now c.self.inside.tree i.0), omega (arith, counts, i.1, ap length left_out))

pub invariant_of-self-else-is_some : goal.invariant_of-self-else-is_some
invariant_of-self-else-is_some g c =
    let i = c.self.invariant in
    let none : is_some c.in_ok-old.old ≡ false = sym c.is_some.ensures ∙ c.if-is_some.false in
    let left_out = c.in_ok-old.ensures.ok i.0 in
    let counts : 0 + length (without g.K.Ord.cmp c.args.key.now c.self.inside.tree) ≡ length c.self.inside.tree =
    without_counts g.met.K.Ord.total arc_value c.in_ok-old.old c.args.key.now c.self.inside.tree false i.0 (c.in_ok-old.ensures.found i.0) none in
    (subst (Rise g.K.Ord.cmp) (sym left_out) (without_rises g.K.Ord.cmp c.args.key.now c.self.inside.tree i.0), omega (arith, counts, i.1, ap length left_out))

pub returns-clause-rise : goal.returns-clause-rise
returns-clause-rise g c =
    let i = c.self.invariant in
    let up = subst (Rise g.K.Ord.cmp) (sym (c.in_ok-old.ensures.ok i.0)) (without_rises g.K.Ord.cmp c.args.key.now c.self.inside.tree i.0) in
    elim c.if-is_some.branch [ then-is_some w ↦ subst (Rise g.K.Ord.cmp) (sym w.self-is) up | else-is_some w ↦ subst (Rise g.K.Ord.cmp) (sym w.self-is) up ]
