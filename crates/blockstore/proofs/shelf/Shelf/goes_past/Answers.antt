use Rattle.std.proofs.Common.{◌≡◌, true, false, sym, subst, inl, inr, Contains}
use Rattle.std.specs.Prelude.{IsSome}
use Rattle.std.proofs.lemmas.Bool.{cases_lt, lt-ltb, ltb-true}
use Rattle.blockstore.specs.Placed.{Held}
use Rattle.blockstore.specs.Shelves.{HasPast}
use Rattle.blockstore.proofs.Shelves.{one_past, none_past, none_without_ages}
use Rattle.blockstore.proofs.shelf.Shelf.goes_past.Goals as goal

pub returns-in-Some : goal.returns-in-Some
returns-in-Some g c =
    let a = c.self.inside in
    let keeps = c.self.invariant in
    let number = c.args.number in
    let newest = c.in-Some.newest.now in (
      λ is. subst (λ (h : Held). HasPast number h.blocks) c.self.view_is (one_past a.blocks keeps.ordered keeps.keyed a.ages keeps.ages number newest c.in-Some.ensures.member (ltb-true number newest.number is)),
      λ past. elim (cases_lt number newest.number) [
        | inl less ↦ lt-ltb number newest.number less
        | inr within ↦ absurd (none_past a.blocks keeps.ordered keeps.keyed a.ages keeps.ages number newest c.in-Some.ensures.greatest within (subst (λ (h : Held). HasPast number h.blocks) (sym c.self.view_is) past))
      ],
    )

pub returns-in-None : goal.returns-in-None
returns-in-None g c =
    let a = c.self.inside in
    let keeps = c.self.invariant in (
      λ is. absurd (let e : false ≡ true = is in cc),
      λ past. absurd (none_without_ages a.blocks keeps.ordered keeps.keyed a.ages keeps.ages
          (λ some. let e : false ≡ true = subst (λ o. IsSome o) c.in-None.is (c.last.ensures.variant.1 some) in cc)
          past.0 (subst (λ (h : Held). Contains h.blocks past.0) (sym c.self.view_is) past.1)),
    )
