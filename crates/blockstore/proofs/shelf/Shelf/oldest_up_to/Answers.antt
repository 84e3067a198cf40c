use Rattle.std.proofs.Common.{subst, sym, arith, map, Contains}
use Rattle.model.specs.Chain.{HaveDistinctHashes}
use Rattle.blockstore.specs.Stored.{Stored}
use Rattle.blockstore.specs.Placed.{Held}
use Rattle.blockstore.specs.Shelves.{HasAge}
use Rattle.blockstore.proofs.Shelves.{distinct_on, past_oldest, none_without_ages, there_at, no_first}
use Rattle.blockstore.proofs.shelf.Shelf.oldest_up_to.Goals as goal

pub returns-in_default-clause-oldest : goal.returns-in_default-clause-oldest
returns-in_default-clause-oldest g c = λ x member.
    absurd (none_without_ages c.self.inside.blocks c.self.invariant.ordered c.self.invariant.keyed c.self.inside.ages c.self.invariant.ages
    (λ some. no_first c.first.result c.in_default.not-Some (c.first.ensures.variant.1 some)) x (subst (λ (h : Held). Contains h.blocks x) (sym c.self.view_is) member))

pub returns-in_default-clause-distinct : goal.returns-in_default-clause-distinct
returns-in_default-clause-distinct g c =
    subst (λ (h : Held). HaveDistinctHashes (map (λ (s : Stored). s.block) h.blocks)) c.self.view_is (distinct_on c.self.inside.blocks c.self.invariant.ordered c.self.invariant.keyed)

pub returns-then-oldest-number-clause-oldest : goal.returns-then-oldest-number-clause-oldest
returns-then-oldest-number-clause-oldest g c = λ x member.
    past_oldest c.self.inside.blocks c.self.invariant.ordered c.self.invariant.keyed c.self.inside.ages c.self.invariant.ages c.args.number c.in-Some.oldest.now c.in-Some.ensures.least
    (omega (arith, c.if-oldest-number.true)) x (subst (λ (h : Held). Contains h.blocks x) (sym c.self.view_is) member)

pub returns-then-oldest-number-clause-distinct : goal.returns-then-oldest-number-clause-distinct
returns-then-oldest-number-clause-distinct g c =
    subst (λ (h : Held). HaveDistinctHashes (map (λ (s : Stored). s.block) h.blocks)) c.self.view_is (distinct_on c.self.inside.blocks c.self.invariant.ordered c.self.invariant.keyed)

pub returns-clause-oldest : goal.returns-clause-oldest
returns-clause-oldest g c = (
  subst (λ (h : Held). HasAge h.blocks c.in-Some.oldest.now) c.self.view_is
      (there_at c.self.inside.blocks c.self.invariant.ordered c.self.invariant.keyed c.self.inside.ages c.self.invariant.ages c.in-Some.oldest.now c.in-Some.ensures.member),
  omega (arith, c.if-oldest-number.false),
)

pub returns-clause-distinct : goal.returns-clause-distinct
returns-clause-distinct g c =
    subst (λ (h : Held). HaveDistinctHashes (map (λ (s : Stored). s.block) h.blocks)) c.self.view_is (distinct_on c.self.inside.blocks c.self.invariant.ordered c.self.invariant.keyed)
