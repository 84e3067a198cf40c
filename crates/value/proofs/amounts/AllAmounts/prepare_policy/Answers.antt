use Rattle.std.proofs.Common.{◌∙◌, ap, sym, subst, List, map}
use Rattle.std.specs.Option.{option_copied_mut}
use Rattle.value.specs.declared.assets.Token.{Token as CodeToken}
use Rattle.std.specs.Prelude.{ℤ, Option, IsSome}
use Rattle.value.specs.View.{token_of, policy_of}
use Rattle.value.specs.Sums.{or_zero, HasAll}
use Rattle.value.specs.Touched.{KeepsOtherNames}
use Rattle.value.specs.declared.amounts.AllAmounts.{AllAmounts}
use Rattle.value.proofs.Preparing.{policy_kept, policy_present}
use Rattle.value.proofs.Touching.{write_keeps, keeps_behind}
use Rattle.value.proofs.amounts.AllAmounts.prepare_policy.Goals as goal

pub returns-in_err-prepare-clause-same : goal.returns-in_err-prepare-clause-same
returns-in_err-prepare-clause-same g c = λ q name.
    let found = sym c.get_mut.ensures.value ∙ ap option_copied_mut c.in-Some.is in
    let kept = policy_kept c.prepare_id.new.self (record { by_policy = c.get_mut.follows.lender c.prepare.new.self; ordered = (c.get_mut.follows.holds c.prepare.new.self).4 }) c.args.policy.now.id.bytes c.in-Some.amounts.now c.prepare.new.self (c.get_mut.follows.holds c.prepare.new.self).0 found c.in_err-prepare.ensures.same c.in_err-prepare.ensures.kept in
    kept.same q name ∙ ap or_zero (c.in_ok-prepare_id.ensures.same q name)

pub returns-in_err-prepare-clause-kept : goal.returns-in_err-prepare-clause-kept
returns-in_err-prepare-clause-kept g c = λ q name h.
    let found = sym c.get_mut.ensures.value ∙ ap option_copied_mut c.in-Some.is in
    let kept = policy_kept c.prepare_id.new.self (record { by_policy = c.get_mut.follows.lender c.prepare.new.self; ordered = (c.get_mut.follows.holds c.prepare.new.self).4 }) c.args.policy.now.id.bytes c.in-Some.amounts.now c.prepare.new.self (c.get_mut.follows.holds c.prepare.new.self).0 found c.in_err-prepare.ensures.same c.in_err-prepare.ensures.kept in
    kept.kept q name (subst (λ (o : Option ℤ). IsSome o) (sym (c.in_ok-prepare_id.ensures.same q name)) h)

pub returns-in_ok-prepare-clause-same : goal.returns-in_ok-prepare-clause-same
returns-in_ok-prepare-clause-same g c = λ q name.
    let found = sym c.get_mut.ensures.value ∙ ap option_copied_mut c.in-Some.is in
    let kept = policy_kept c.prepare_id.new.self (record { by_policy = c.get_mut.follows.lender c.prepare.new.self; ordered = (c.get_mut.follows.holds c.prepare.new.self).4 }) c.args.policy.now.id.bytes c.in-Some.amounts.now c.prepare.new.self (c.get_mut.follows.holds c.prepare.new.self).0 found c.in_ok-prepare.ensures.same c.in_ok-prepare.ensures.kept in
    kept.same q name ∙ ap or_zero (c.in_ok-prepare_id.ensures.same q name)

pub returns-in_ok-prepare-clause-kept : goal.returns-in_ok-prepare-clause-kept
returns-in_ok-prepare-clause-kept g c = λ q name h.
    let found = sym c.get_mut.ensures.value ∙ ap option_copied_mut c.in-Some.is in
    let kept = policy_kept c.prepare_id.new.self (record { by_policy = c.get_mut.follows.lender c.prepare.new.self; ordered = (c.get_mut.follows.holds c.prepare.new.self).4 }) c.args.policy.now.id.bytes c.in-Some.amounts.now c.prepare.new.self (c.get_mut.follows.holds c.prepare.new.self).0 found c.in_ok-prepare.ensures.same c.in_ok-prepare.ensures.kept in
    kept.kept q name (subst (λ (o : Option ℤ). IsSome o) (sym (c.in_ok-prepare_id.ensures.same q name)) h)

pub returns-in_ok-prepare-clause-present : goal.returns-in_ok-prepare-clause-present
returns-in_ok-prepare-clause-present g c =
    let found = sym c.get_mut.ensures.value ∙ ap option_copied_mut c.in-Some.is in
    let kept = policy_kept c.prepare_id.new.self (record { by_policy = c.get_mut.follows.lender c.prepare.new.self; ordered = (c.get_mut.follows.holds c.prepare.new.self).4 }) c.args.policy.now.id.bytes c.in-Some.amounts.now c.prepare.new.self (c.get_mut.follows.holds c.prepare.new.self).0 found c.in_ok-prepare.ensures.same c.in_ok-prepare.ensures.kept in
    policy_present (record { by_policy = c.get_mut.follows.lender c.prepare.new.self; ordered = (c.get_mut.follows.holds c.prepare.new.self).4 }) (policy_of c.args.policy.now) c.prepare.new.self kept.found (subst (λ (ts : List (CodeToken g.row.Q.Denot)). HasAll c.prepare.new.self (map token_of ts)) c.deref.ensures.value c.in_ok-prepare.ensures.present)

pub returns-in_err-prepare-clause-others : goal.returns-in_err-prepare-clause-others
returns-in_err-prepare-clause-others g c =
    let found = sym c.get_mut.ensures.value ∙ ap option_copied_mut c.in-Some.is in
    let new : AllAmounts = record { by_policy = c.get_mut.follows.lender c.prepare.new.self; ordered = (c.get_mut.follows.holds c.prepare.new.self).4 } in
    let others = subst (λ (ts : List (CodeToken g.row.Q.Denot)). KeepsOtherNames c.in-Some.amounts.now c.prepare.new.self (map token_of ts)) c.deref.ensures.value c.in_err-prepare.ensures.others in
    let keeps = keeps_behind c.args.self.now c.prepare_id.new.self new (policy_of c.args.policy.now) c.in_ok-prepare_id.ensures.same c.in_ok-prepare_id.ensures.others
    (write_keeps c.prepare_id.new.self new (policy_of c.args.policy.now) c.in-Some.amounts.now c.prepare.new.self (c.get_mut.follows.holds c.prepare.new.self).0 found others) in
    record { names = keeps.names; policies = keeps.policies }

pub returns-in_ok-prepare-clause-others : goal.returns-in_ok-prepare-clause-others
returns-in_ok-prepare-clause-others g c =
    let found = sym c.get_mut.ensures.value ∙ ap option_copied_mut c.in-Some.is in
    let new : AllAmounts = record { by_policy = c.get_mut.follows.lender c.prepare.new.self; ordered = (c.get_mut.follows.holds c.prepare.new.self).4 } in
    let others = subst (λ (ts : List (CodeToken g.row.Q.Denot)). KeepsOtherNames c.in-Some.amounts.now c.prepare.new.self (map token_of ts)) c.deref.ensures.value c.in_ok-prepare.ensures.others in
    let keeps = keeps_behind c.args.self.now c.prepare_id.new.self new (policy_of c.args.policy.now) c.in_ok-prepare_id.ensures.same c.in_ok-prepare_id.ensures.others
    (write_keeps c.prepare_id.new.self new (policy_of c.args.policy.now) c.in-Some.amounts.now c.prepare.new.self (c.get_mut.follows.holds c.prepare.new.self).0 found others) in
    record { names = keeps.names; policies = keeps.policies }
