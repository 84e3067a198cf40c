use Rattle.std.proofs.Common.{◌≡◌, ◌+◌, true, false, not, length, is_some, sym, ap, ◌∙◌, subst}
use Rattle.std.specs.Arc.{arc_value}
use Rattle.persistent_map.specs.Order.{Rise}
use Rattle.persistent_map.proofs.Counts.{put_rises, put_counts}
use Rattle.persistent_map.proofs.persistent_map.PersistentMap.insert.Goals as goal
use Rattle.persistent_map.proofs.persistent_map.PersistentMap.insert.Goals.{then-is_none, else-is_none}

pub invariant_of-self-then-is_none : goal.invariant_of-self-then-is_none
invariant_of-self-then-is_none g c =
    let i = c.self.invariant in
    let new : is_some c.in_ok-old.old ≡ false = c.is_none.ensures ∙ ap not c.if-is_none.true in
    let put_in = c.in_ok-old.ensures.ok i.0 in
    let counts = put_counts g.met.K.Ord.total arc_value c.in_ok-old.old c.args.key (arc_value c.args.value) c.self.inside.tree false i.0 (c.in_ok-old.ensures.found i.0) new in (
      subst (Rise g.K.Ord.cmp) (sym put_in) (put_rises g.met.K.Ord.total c.args.key (arc_value c.args.value) c.self.inside.tree i.0),
      c.in-Some.ensures.1 ∙ ap (λ n. n + 1) i.1 ∙ sym counts ∙ sym (ap length put_in),
    )

pub invariant_of-self-else-is_none : goal.invariant_of-self-else-is_none
invariant_of-self-else-is_none g c =
    let i = c.self.invariant in
    let old : is_some c.in_ok-old.old ≡ true = c.is_none.ensures ∙ ap not c.if-is_none.false in
    let put_in = c.in_ok-old.ensures.ok i.0 in
    let counts = put_counts g.met.K.Ord.total arc_value c.in_ok-old.old c.args.key (arc_value c.args.value) c.self.inside.tree true i.0 (c.in_ok-old.ensures.found i.0) old in (
      subst (Rise g.K.Ord.cmp) (sym put_in) (put_rises g.met.K.Ord.total c.args.key (arc_value c.args.value) c.self.inside.tree i.0),
      i.1 ∙ sym counts ∙ sym (ap length put_in),
    )

pub returns-clause-rise : goal.returns-clause-rise
returns-clause-rise g c =
    let i = c.self.invariant in
    let up = subst (Rise g.K.Ord.cmp) (sym (c.in_ok-old.ensures.ok i.0)) (put_rises g.met.K.Ord.total c.args.key (arc_value c.args.value) c.self.inside.tree i.0) in
    elim c.if-is_none.branch [ then-is_none w ↦ subst (Rise g.K.Ord.cmp) (sym w.self-is) up | else-is_none w ↦ subst (Rise g.K.Ord.cmp) (sym w.self-is) up ]
