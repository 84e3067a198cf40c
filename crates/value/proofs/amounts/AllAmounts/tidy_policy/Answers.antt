use Rattle.std.proofs.Common.{◌≡◌, ◌∙◌, ap, sym, subst, rules, List, None, map}
use Rattle.std.proofs.lemmas.List.{nil_from_length}
use Rattle.std.specs.Option.{option_copied_mut}
use Rattle.value.specs.declared.amounts.AllAmounts.{AllAmounts}
use Rattle.value.specs.declared.assets.Token.{Token as CodeToken}
use Rattle.value.specs.Touched.{KeepsOtherNames}
use Rattle.value.specs.Sums.{amounts_of}
use Rattle.value.specs.View.{token_of, policy_of}
use Rattle.value.proofs.Tidying.{policy_tidied, policy_taken_out, absent_left}
use Rattle.value.proofs.amounts.AllAmounts.tidy_policy.Goals as goal

pub returns-then-is_empty-clause-same : goal.returns-then-is_empty-clause-same
returns-then-is_empty-clause-same g c =
    let now : AllAmounts = record { by_policy = c.get_mut.follows.lender c.tidy.new.self; ordered = (c.get_mut.follows.holds c.tidy.new.self).4 } in
    let found = sym c.get_mut.ensures.value ∙ ap option_copied_mut c.in-Some.is in
    let others = subst (λ (ts : List (CodeToken g.row.Q.Denot)). KeepsOtherNames c.in-Some.amounts.now c.tidy.new.self (map token_of ts)) c.deref.ensures.value c.tidy.ensures.others in
    let new : AllAmounts = record { by_policy = c.remove.new.self; ordered = c.remove.ensures.ordered } in
    let step = policy_taken_out c.args.self.now now new (policy_of c.args.policy.now) c.in-Some.amounts.now c.tidy.new.self (c.get_mut.follows.holds c.tidy.new.self).0 found c.tidy.ensures.same others
    (nil_from_length c.tidy.new.self.by_name.entries (c.is_empty.ensures.0 c.if-is_empty.true)) c.remove.ensures.entries in
    step.same

pub returns-then-is_empty-clause-others : goal.returns-then-is_empty-clause-others
returns-then-is_empty-clause-others g c =
    let now : AllAmounts = record { by_policy = c.get_mut.follows.lender c.tidy.new.self; ordered = (c.get_mut.follows.holds c.tidy.new.self).4 } in
    let found = sym c.get_mut.ensures.value ∙ ap option_copied_mut c.in-Some.is in
    let others = subst (λ (ts : List (CodeToken g.row.Q.Denot)). KeepsOtherNames c.in-Some.amounts.now c.tidy.new.self (map token_of ts)) c.deref.ensures.value c.tidy.ensures.others in
    let new : AllAmounts = record { by_policy = c.remove.new.self; ordered = c.remove.ensures.ordered } in
    let step = policy_taken_out c.args.self.now now new (policy_of c.args.policy.now) c.in-Some.amounts.now c.tidy.new.self (c.get_mut.follows.holds c.tidy.new.self).0 found c.tidy.ensures.same others
    (nil_from_length c.tidy.new.self.by_name.entries (c.is_empty.ensures.0 c.if-is_empty.true)) c.remove.ensures.entries in
    record { names = step.others.names; policies = step.others.policies }

pub returns-else-is_empty-clause-same : goal.returns-else-is_empty-clause-same
returns-else-is_empty-clause-same g c =
    let now : AllAmounts = record { by_policy = c.get_mut.follows.lender c.tidy.new.self; ordered = (c.get_mut.follows.holds c.tidy.new.self).4 } in
    let found = sym c.get_mut.ensures.value ∙ ap option_copied_mut c.in-Some.is in
    let others = subst (λ (ts : List (CodeToken g.row.Q.Denot)). KeepsOtherNames c.in-Some.amounts.now c.tidy.new.self (map token_of ts)) c.deref.ensures.value c.tidy.ensures.others in
    let step = policy_tidied c.args.self.now now (policy_of c.args.policy.now) c.in-Some.amounts.now c.tidy.new.self (c.get_mut.follows.holds c.tidy.new.self).0 found c.tidy.ensures.same others in
    step.same

pub returns-else-is_empty-clause-others : goal.returns-else-is_empty-clause-others
returns-else-is_empty-clause-others g c =
    let now : AllAmounts = record { by_policy = c.get_mut.follows.lender c.tidy.new.self; ordered = (c.get_mut.follows.holds c.tidy.new.self).4 } in
    let found = sym c.get_mut.ensures.value ∙ ap option_copied_mut c.in-Some.is in
    let others = subst (λ (ts : List (CodeToken g.row.Q.Denot)). KeepsOtherNames c.in-Some.amounts.now c.tidy.new.self (map token_of ts)) c.deref.ensures.value c.tidy.ensures.others in
    let step = policy_tidied c.args.self.now now (policy_of c.args.policy.now) c.in-Some.amounts.now c.tidy.new.self (c.get_mut.follows.holds c.tidy.new.self).0 found c.tidy.ensures.same others in
    record { names = step.others.names; policies = step.others.policies }

pub returns-in_default-clause-left : goal.returns-in_default-clause-left
returns-in_default-clause-left g c =
    let absent : amounts_of c.args.self.now c.args.policy.now.id.bytes ≡ None = sym c.get_mut.ensures.value ∙ ap option_copied_mut c.in_default.is in
    absent_left _ (map token_of c.args.policy.now.tokens.items) (search (rules, absent))
