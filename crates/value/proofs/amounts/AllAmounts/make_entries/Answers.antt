use Rattle.std.proofs.Common.{List, map}
use Rattle.model.specs.Value.{Policy}
use Rattle.value.specs.View.{policy_of}
use Rattle.value.proofs.Lists.{rest_here, rest_none}
use Rattle.value.proofs.Preparing.{PreparedAll, prepared_more_policies}
use Rattle.value.proofs.Touching.{TouchedAssets, touched_more_policies}
use Rattle.value.proofs.amounts.AllAmounts.make_entries.Goals as goal

pub loop-policy-preserved : goal.loop-policy-preserved
loop-policy-preserved g c =
    let all = map policy_of c.args.policies.now in
    let here = rest_here policy_of (λ (rest : List (Policy g.row.Q.Denot)). PreparedAll c.args.self.now c.loop-policy.self all rest) c.args.policies.now c.loop-policy.policy-index c.policy-item.result c.loop-policy-test.true c.policy-item.is c.loop-policy.invariant in
    prepared_more_policies c.args.self.now c.loop-policy.self c.prepare_policy.new.self all _ (policy_of c.policy-item.result) here c.in_ok-prepare_policy.ensures.same c.in_ok-prepare_policy.ensures.kept c.in_ok-prepare_policy.ensures.present c.in_ok-prepare_policy.ensures.others

pub returns-clause-present : goal.returns-clause-present
returns-clause-present g c =
    let all = map policy_of c.args.policies.now in
    let done = rest_none policy_of (λ (rest : List (Policy g.row.Q.Denot)). PreparedAll c.args.self.now c.loop-policy.self all rest) c.args.policies.now c.loop-policy.policy-index c.loop-policy-test.false c.loop-policy.invariant in
    done.present c.loop-policy.self (λ policy name h. h) tt

pub returns-in_err-prepare_policy-clause-others : goal.returns-in_err-prepare_policy-clause-others
returns-in_err-prepare_policy-clause-others g c =
    let all = map policy_of c.args.policies.now in
    let here = rest_here policy_of (λ (rest : List (Policy g.row.Q.Denot)). TouchedAssets c.args.self.now c.loop-policy.self all rest) c.args.policies.now c.loop-policy.policy-index c.policy-item.result c.loop-policy-test.true c.policy-item.is c.loop-policy.invariant.touched in
    (touched_more_policies c.args.self.now c.loop-policy.self c.prepare_policy.new.self all _ (policy_of c.policy-item.result) here c.in_err-prepare_policy.ensures.others).others

pub returns-clause-others : goal.returns-clause-others
returns-clause-others g c = c.loop-policy.invariant.touched.others
