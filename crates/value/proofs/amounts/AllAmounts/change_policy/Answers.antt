use Rattle.std.proofs.Common.{◌≡◌, None, ◌∙◌, ◌^◌, ap, sym, subst, rules, ℕ, List, [], Option, map}
use Rattle.std.specs.List.{AllByRecursion}
use Rattle.std.specs.Option.{option_copied_mut}
use Rattle.std.specs.Prelude.{IsSome}
use Rattle.model.specs.Value.{Token, named_amount}
use Rattle.value.specs.declared.amounts.Amounts.{Amounts}
use Rattle.value.specs.declared.amounts.AllAmounts.{AllAmounts}
use Rattle.value.specs.Quantities.{IsWithin, quantity_limit}
use Rattle.value.specs.Sides.{sided}
use Rattle.value.specs.Sums.{or_zero, sum_under_any, amount_under, amounts_of}
use Rattle.value.specs.View.{token_of, policy_of}
use Rattle.value.specs.Touched.{KeepsOtherNames}
use Rattle.value.specs.declared.assets.Token.{Token as CodeToken}
use Rattle.byte_keys.specs.ByteKeys.{at_bytes}
use Rattle.value.proofs.Adding.{policy_written, policy_unwritten, no_tokens}
use Rattle.value.proofs.amounts.AllAmounts.change_policy.Goals as goal

pub change-requires-clause-room : goal.change-requires-clause-room
change-requires-clause-room g c = λ name.
    let found = sym c.get_mut.ensures.value ∙ ap option_copied_mut c.in-Some.is in
    subst (λ (o : Option Amounts). IsWithin (2 ^ 126) (or_zero (sum_under_any o name))) found (c.requires.room name)

pub returns-in-Some : goal.returns-in-Some
returns-in-Some g c =
    let p = policy_of c.args.policy.now in
    let found = sym c.get_mut.ensures.value ∙ ap option_copied_mut c.in-Some.is in
    let sums : (name : List ℕ) → amount_under c.change.new.self name ≡ _ = λ name. rw c.deref.ensures.value at (c.change.ensures.sums name) in
    let new : AllAmounts = record { by_policy = c.get_mut.follows.lender c.change.new.self; ordered = (c.get_mut.follows.holds c.change.new.self).4 } in
    let others = subst (λ (ts : List (CodeToken g.row.Q.Denot)). KeepsOtherNames c.in-Some.amounts.now c.change.new.self (map token_of ts)) c.deref.ensures.value c.change.ensures.others in
    let written = policy_written c.args.self.now new p (λ name. sided c.args.side (named_amount g.Q.Quantity.whole name p.tokens)) c.in-Some.amounts.now c.change.new.self (c.get_mut.follows.holds c.change.new.self).0 found sums others in
    record { sums = written.sums; others = record { names = written.others.names; policies = written.others.policies }; bounded = rw c.deref.ensures.value at c.change.ensures.bounded }

pub returns-in_default : goal.returns-in_default
returns-in_default g c =
    let p = policy_of c.args.policy.now in
    let absent : amounts_of c.args.self.now p.id ≡ None = sym c.get_mut.ensures.value ∙ ap option_copied_mut c.in_default.is in
    let none : p.tokens ≡ [] = no_tokens p.tokens (subst (λ (o : Option Amounts). AllByRecursion (λ (t : Token g.row.Q.Denot). IsSome (sum_under_any o t.name)) p.tokens) absent c.requires.present) in
    let same : (q : List ℕ) → at_bytes (λ k. k.bytes) q c.get_mut.follows.lender-at-none ≡ amounts_of c.args.self.now q = λ q. search rules in
    let unwritten = policy_unwritten g.Q.Quantity.whole c.args.side c.args.self.now _ p none same in
    record {
      sums = unwritten.sums;
      others = unwritten.others;
      bounded = subst (AllByRecursion (λ (t : Token g.row.Q.Denot). IsWithin quantity_limit (g.Q.Quantity.whole t.quantity))) (sym none) tt;
    }
