use Rattle.std.proofs.Common.{◌≡◌, ℕ, ℤ, pos, List, nat_eq, arith, ap, of_z}
use Rattle.std.proofs.lemmas.Bool.Decides.{nat_tests}
use Rattle.model.specs.Value.{Asset, Ada, Named}
use Rattle.value.specs.declared.amounts.AllAmounts.{AllAmounts}
use Rattle.value.specs.Sums.{amount_in, total_in}
use Rattle.value.proofs.Summing.{coin_from_bits}
use Rattle.value.proofs.Listing.{none_listed}
use Rattle.value.proofs.totals.Totals.is_balanced.Goals as goal
use mir.Syntax.{w128}

-- where there is no ada and nothing of any policy there is nothing of any asset
nothing : (coin : ℤ) (all : AllAmounts) → coin ≡ pos 0 → ((policy name : List ℕ) → amount_in all policy name ≡ pos 0) → (asset : Asset) → total_in coin all asset ≡ pos 0
nothing coin all ada none Ada = ada
nothing coin all ada none (Named policy name) = none policy name

pub returns-then-self-eq0 : goal.returns-then-self-eq0
returns-then-self-eq0 c =
    let none = none_listed c.args.self.now.assets c.args.self.now.tidy in (
      λ yes. nothing c.args.self.now.coin c.args.self.now.assets (coin_from_bits c.args.self.now.values c.args.self.now.coin c.args.self.now.few (c.args.self.now.within Ada) c.if-self-eq0.true) (none.0 (c.is_empty.ensures.0 yes)),
      λ zero. c.is_empty.ensures.1 (none.1 (λ policy name. zero (Named policy name))),
    )

pub returns-else-self-eq0 : goal.returns-else-self-eq0
returns-else-self-eq0 c = (
  λ yes. absurd (c.if-self-eq0.false (grind (arith, nat_tests))),
  λ zero. let ada : c.args.self.now.coin ≡ pos 0 = zero Ada in ap (λ (z : ℤ). nat_eq (of_z w128 z) 0) ada,
)
