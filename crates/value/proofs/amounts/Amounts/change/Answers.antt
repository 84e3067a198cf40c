use Rattle.std.proofs.Common.{◌≡◌, ◌∙◌, ap, sym, subst, ℕ, ◌^◌, List, map, to_z, of_z, IsSome}
use Rattle.model.specs.Value.{Token}
use Rattle.value.specs.Quantities.{IsWithin, quantity_limit}
use Rattle.value.specs.Sides.{sided}
use Rattle.value.specs.Sums.{sum_under, amount_under}
use Rattle.value.specs.View.{token_of}
use Rattle.value.proofs.Lists.{rest_here, rest_none}
use Rattle.value.proofs.Sums.{quantity_fits}
use Rattle.value.proofs.Adding.{Changing, changing_none, changing_more, changing_all}
use Rattle.value.proofs.amounts.Amounts.change.Goals as goal
use mir.Syntax.{w128}

pub loop-token-init : goal.loop-token-init
loop-token-init g c = changing_none g.Q.Quantity.whole c.args.side c.args.self.now (map token_of c.args.tokens.now) c.requires.present c.requires.room c.requires.differ

pub put-requires : goal.put-requires
put-requires g c =
    let all = map token_of c.args.tokens.now in
    let here = rest_here token_of (λ (rest : List (Token g.row.Q.Denot)). Changing g.Q.Quantity.whole c.args.side c.args.self.now c.loop-token.self all rest) c.args.tokens.now c.loop-token.token-index c.token-item.result c.loop-token-test.true c.token-item.is c.loop-token.invariant in
    record {
      present = subst (λ (n : List ℕ). IsSome (sum_under c.loop-token.self n)) (sym c.deref.ensures.value) here.present.0;
      room = subst (λ (n : List ℕ). IsWithin (2 ^ 126) (amount_under c.loop-token.self n)) (sym c.deref.ensures.value) here.room.0;
      within = subst (IsWithin quantity_limit) (sym (quantity_fits c.change_by-by.result c.change_by-by.ensures.within)) c.change_by-by.ensures.within;
    }

pub loop-token-preserved : goal.loop-token-preserved
loop-token-preserved g c =
    let all = map token_of c.args.tokens.now in
    let here = rest_here token_of (λ (rest : List (Token g.row.Q.Denot)). Changing g.Q.Quantity.whole c.args.side c.args.self.now c.loop-token.self all rest) c.args.tokens.now c.loop-token.token-index c.token-item.result c.loop-token-test.true c.token-item.is c.loop-token.invariant in
    let whole : to_z w128 (of_z w128 c.to_whole.result) ≡ g.Q.Quantity.whole c.token-item.result.quantity = quantity_fits c.to_whole.result c.to_whole.ensures.within ∙ c.to_whole.ensures.is in
    let by : to_z w128 (of_z w128 c.change_by-by.result) ≡ sided c.args.side (g.Q.Quantity.whole c.token-item.result.quantity) = quantity_fits c.change_by-by.result c.change_by-by.ensures.within ∙ c.change_by-by.ensures.is ∙ ap (sided c.args.side) whole in
    changing_more g.Q.Quantity.whole c.args.side c.args.self.now c.loop-token.self c.put.new.self all _ (token_of c.token-item.result) here
    (λ name. rw (c.deref.ensures.value, by) at (c.put.ensures.sums name))
    c.put.ensures.kept
    (subst (IsWithin quantity_limit) c.to_whole.ensures.is c.to_whole.ensures.within)
    (λ q. rw c.deref.ensures.value at (c.put.ensures.others q))

pub returns : goal.returns
returns g c =
    let all = map token_of c.args.tokens.now in
    let done = rest_none token_of (λ (rest : List (Token g.row.Q.Denot)). Changing g.Q.Quantity.whole c.args.side c.args.self.now c.loop-token.self all rest) c.args.tokens.now c.loop-token.token-index c.loop-token-test.false c.loop-token.invariant in
    record { sums = changing_all g.Q.Quantity.whole c.args.side c.args.self.now c.loop-token.self all done; bounded = done.bounded tt; others = done.touched.others }
