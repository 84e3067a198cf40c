use Rattle.std.proofs.Common.{◌≡◌, ◌+◌, true, false, List, ◌∷◌, map, drop, sym, ap, subst, ◌∙◌}
use Rattle.std.specs.Ordering.{is_eq}
use Rattle.std.proofs.lemmas.List.{drop_all}
use Rattle.cbor.proofs.ForCallers.{drop_here}
use Rattle.tx.proofs.Ties.{Climbs, DecidesFrom, climbs_if, decides_all, decides_more, decides_tie, decides_none, none_rise}
use Rattle.tx.proofs.ranked.first_repeated.Goals as goal

pub loop-part-init : goal.loop-part-init
loop-part-init g c =
    let t = g.T.Ranked in
    let parts = c.args.parts.now in
    let first = c.in-Some.first.now in
    let others = c.in-Some.others.now in
    let split = c.in-Some.ensures.cases.0 in
    let up = climbs_if t.cmp g.met.T.Ranked.total t.key parts c.requires in
    subst (λ all. DecidesFrom t.cmp (map t.key all) (t.key first) (map t.key others)) (sym split)
    (decides_all t.cmp g.met.T.Ranked.total (t.key first) (map t.key others) (subst (λ all. Climbs t.cmp (map t.key all)) split up))

pub loop-part-preserved : goal.loop-part-preserved
loop-part-preserved g c =
    let t = g.T.Ranked in
    let all = map t.key c.args.parts.now in
    let last = t.key c.loop-part.last.now in
    let others = c.in-Some.others.now in
    let k = c.loop-part.part-index in
    let part = c.part-item.result in
    let apart : is_eq (t.cmp last (t.key part)) ≡ false = ap is_eq (sym c.rank.ensures) ∙ sym (c.if-is_eq.ensures {u = tt}) in
    let here = subst (λ rest. DecidesFrom t.cmp all last (map t.key rest)) (drop_here others k part c.loop-part-test.true c.part-item.is) c.loop-part.invariant in
    decides_more t.cmp g.met.T.Ranked.total all last (t.key part) (map t.key (drop (k + 1) others)) apart here

pub returns-then-is_eq-clause-some : goal.returns-then-is_eq-clause-some
returns-then-is_eq-clause-some g c =
    let t = g.T.Ranked in
    let all = map t.key c.args.parts.now in
    let last = t.key c.loop-part.last.now in
    let others = c.in-Some.others.now in
    let k = c.loop-part.part-index in
    let part = c.part-item.result in
    let same : is_eq (t.cmp last (t.key part)) ≡ true = ap is_eq (sym c.rank.ensures) ∙ sym (c.if-is_eq.ensures {u = tt}) in
    let here = subst (λ rest. DecidesFrom t.cmp all last (map t.key rest)) (drop_here others k part c.loop-part-test.true c.part-item.is) c.loop-part.invariant in
    decides_tie t.cmp g.met.T.Ranked.total all last (t.key part) (map t.key (drop (k + 1) others)) same here

pub returns-clause-none : goal.returns-clause-none
returns-clause-none g c =
    let t = g.T.Ranked in
    let all = map t.key c.args.parts.now in
    let last = t.key c.loop-part.last.now in
    let here = subst (λ rest. DecidesFrom t.cmp all last (map t.key rest)) (drop_all c.loop-part.part-index c.in-Some.others.now c.loop-part-test.false) c.loop-part.invariant in
    decides_none t.cmp g.met.T.Ranked.total all last here

pub returns-in_default-clause-none : goal.returns-in_default-clause-none
returns-in_default-clause-none g c =
    let t = g.T.Ranked in
    none_rise t.cmp t.key c.args.parts.now c.in_default.ensures.cases
