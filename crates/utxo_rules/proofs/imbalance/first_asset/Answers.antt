use Rattle.std.proofs.Common.{◌≡◌, ℕ, ◌∷◌, pos, List, sym, ap, subst, ◌∙◌, arith}
use Rattle.std.proofs.lemmas.Int.{ints}
use Rattle.model.specs.Value.{Ada, Named}
use Rattle.value.specs.Totals.{total_of, policies_met}
use Rattle.value.specs.Listed.{listed, named_sums}
use Rattle.utxo_rules.specs.Unbalanced.{IsFirstOff}
use Rattle.utxo_rules.proofs.Unbalanced.{named_off}
use Rattle.utxo_rules.proofs.imbalance.first_asset.Goals as goal

pub returns : goal.returns
returns c =
    let totals = c.args.totals.now in
    let p = c.in-Some.policy.now.bytes in
    let names = named_sums c.in-Some.amounts.now in
    let rest = listed c.next.new.self in
    let is : listed (policies_met totals) ≡ (p, names) ∷ rest = ap listed (sym c.policies.ensures.rest ∙ c.in-Some.ensures.steps) in
    let ada : total_of totals Ada ≡ pos 0 = (let h = c.if-coin-ne0.false in let none : c.coin.result ≡ pos 0 = omega (arith, ints, h, c.coin.type_inv) in sym c.coin.ensures ∙ none) in
    let found = named_off (total_of totals) (listed (policies_met totals)) c.policies.ensures.listed p names rest is c.in-Some-first_name.name.now c.policies.ensures.ordered ada c.in-Some-first_name.ensures in
    subst (λ (n : List ℕ). IsFirstOff (total_of totals) (Named p n)) (sym c.in_ok-from_slice.ensures.items) found
