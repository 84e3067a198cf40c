use Rattle.std.proofs.Common.{◌≡◌, ℕ, ℤ, pos, ◌+ℤ◌, ◌^◌, ◌*◌, List, map, arith, sym, ◌∙◌, ap, subst, rules, to_z, of_z}
use Rattle.std.proofs.lemmas.Int.{ints}
use Rattle.model.specs.Value.{Asset, Ada, Named, policy_amount}
use Rattle.value.specs.Totals.{change_of}
use Rattle.value.specs.Quantities.{IsWithin, quantity_limit}
use Rattle.value.specs.Sides.{sided}
use Rattle.value.specs.Sums.{amount_in, total_in}
use Rattle.value.specs.View.{policy_of}
use Rattle.value.proofs.Sums.{written, quantity_fits}
use Rattle.value.proofs.Summing.{total_same, in_reach, coin_within, total_changed, total_within}
use Rattle.value.proofs.Touching.{both_keep}
use Rattle.value.proofs.Tidying.{tidy_after}
use Rattle.value.proofs.Listing.{same_listing}
use Rattle.value.proofs.totals.Totals.change.Goals as goal
use Rattle.value.proofs.totals.Totals.change.Given.{Over}
use mir.Syntax.{w128}

-- ---- where memory runs out

pub invariant_of-self : goal.invariant_of-self
invariant_of-self g c = record {
  few = c.args.self.now.few;
  within = λ asset. subst (IsWithin (c.args.self.now.values * 2 ^ 64)) (sym (total_same c.args.self.now.coin c.args.self.now.assets c.prepare.new.self c.prepare.ensures.same asset)) (c.args.self.now.within asset);
  tidy = tidy_after c.args.self.now.assets c.prepare.new.self (map policy_of c.args.assets.now) c.args.self.now.tidy c.prepare.ensures.others c.in_err-prepare.ensures.tidy;
}

pub returns-in_err-prepare-clause-listing : goal.returns-in_err-prepare-clause-listing
returns-in_err-prepare-clause-listing g c =
    let tidy = tidy_after c.args.self.now.assets c.prepare.new.self (map policy_of c.args.assets.now) c.args.self.now.tidy c.prepare.ensures.others c.in_err-prepare.ensures.tidy in
    let told = same_listing c.args.self.now.assets c.prepare.new.self c.args.self.now.tidy tidy c.prepare.ensures.same in
    search (rules, told)

-- ---- where it doesn't

-- the sums, before the value is counted
changed : (g : Over) (c : goal.After-tidy g) (asset : Asset)
    → total_in (to_z w128 (of_z w128 (to_z w128 (of_z w128 c.args.self.now.coin) +ℤ to_z w128 (of_z w128 c.change_by.result)))) c.tidy.new.self asset
    ≡ total_in c.args.self.now.coin c.args.self.now.assets asset +ℤ sided c.args.side (change_of g.Q.Quantity.whole c.args.coin (map policy_of c.args.assets.now) asset)
changed g c asset =
    let room = in_reach c.args.self.now.values c.args.self.now.coin c.requires.room (c.args.self.now.within Ada) in
    let coin : to_z w128 (of_z w128 c.from.result) ≡ pos c.args.coin = quantity_fits c.from.result (subst (IsWithin quantity_limit) (sym c.from.ensures) (coin_within c.args.coin c.ranges.coin.fits)) ∙ c.from.ensures in
    let more = written c.args.self.now.coin c.change_by.result room c.change_by.ensures.within ∙ ap (λ (z : ℤ). c.args.self.now.coin +ℤ z) (c.change_by.ensures.is ∙ ap (sided c.args.side) coin) in
    let sums : (policy name : List ℕ) → amount_in c.tidy.new.self policy name ≡ amount_in c.args.self.now.assets policy name +ℤ sided c.args.side (policy_amount g.Q.Quantity.whole policy name (map policy_of c.args.assets.now)) =
    λ policy name. c.tidy.ensures.same policy name ∙ c.change.ensures.sums policy name ∙ ap (λ (z : ℤ). z +ℤ sided c.args.side (policy_amount g.Q.Quantity.whole policy name (map policy_of c.args.assets.now))) (c.prepare.ensures.same policy name) in
    total_changed g.Q.Quantity.whole c.args.side c.args.coin (map policy_of c.args.assets.now) c.args.self.now.coin _ c.args.self.now.assets c.tidy.new.self more sums asset

pub overflow_add-self : goal.overflow_add-self
overflow_add-self g c =
    let room = in_reach c.args.self.now.values c.args.self.now.coin c.requires.room (c.args.self.now.within Ada) in
    omega (arith, ints, c.change_by.ensures.within)

pub change-requires-clause-room : goal.change-requires-clause-room
change-requires-clause-room g c = λ policy name.
    in_reach c.args.self.now.values _ c.requires.room (subst (IsWithin (c.args.self.now.values * 2 ^ 64)) (sym (c.prepare.ensures.same policy name)) (c.args.self.now.within (Named policy name)))

pub invariant_of-self-2 : goal.invariant_of-self-2
invariant_of-self-2 g c =
    let ps = map policy_of c.args.assets.now in
    let changes = both_keep c.args.self.now.assets c.prepare.new.self c.change.new.self ps c.prepare.ensures.others c.change.ensures.others in
    let keeps = both_keep c.args.self.now.assets c.change.new.self c.tidy.new.self ps changes c.tidy.ensures.others in
    record {
      few = omega (arith, c.requires.room);
      within = λ asset. total_within g.Q.Quantity.whole c.args.side c.args.coin ps c.args.self.now.values (total_in c.args.self.now.coin c.args.self.now.assets asset) _ asset c.ranges.coin.fits c.requires.differ c.change.ensures.bounded (c.args.self.now.within asset) (changed g c asset);
      tidy = tidy_after c.args.self.now.assets c.tidy.new.self ps c.args.self.now.tidy keeps c.tidy.ensures.tidy;
    }
