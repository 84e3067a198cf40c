use Rattle.std.proofs.Common.{List, map}
use Rattle.model.specs.Value.{Policy}
use Rattle.value.specs.View.{policy_of}
use Rattle.value.proofs.Lists.{rest_here, rest_none}
use Rattle.value.proofs.Tidying.{TidiedAll, tidied_no_policy, tidied_more_policies}
use Rattle.value.proofs.amounts.AllAmounts.tidy.Goals as goal

pub loop-policy-init : goal.loop-policy-init
loop-policy-init g c = tidied_no_policy c.args.self.now (map policy_of c.args.policies.now)

pub loop-policy-preserved : goal.loop-policy-preserved
loop-policy-preserved g c =
    let all = map policy_of c.args.policies.now in
    let here = rest_here policy_of (λ (rest : List (Policy g.row.Q.Denot)). TidiedAll c.args.self.now c.loop-policy.self all rest) c.args.policies.now c.loop-policy.policy-index c.policy-item.result c.loop-policy-test.true c.policy-item.is c.loop-policy.invariant in
    tidied_more_policies c.args.self.now c.loop-policy.self c.tidy_policy.new.self all _ (policy_of c.policy-item.result) here
    (record { same = c.tidy_policy.ensures.same; others = c.tidy_policy.ensures.others; left = c.tidy_policy.ensures.left; bare = c.tidy_policy.ensures.bare })

pub returns : goal.returns
returns g c =
    let all = map policy_of c.args.policies.now in
    let done = rest_none policy_of (λ (rest : List (Policy g.row.Q.Denot)). TidiedAll c.args.self.now c.loop-policy.self all rest) c.args.policies.now c.loop-policy.policy-index c.loop-policy-test.false c.loop-policy.invariant in
    record {
      same = done.same;
      others = done.touched.others;
      tidy = record {
        sums = λ policy name zero. done.left policy name zero tt;
        names = λ policy amounts is empty. done.bare policy amounts is empty tt;
      };
    }
