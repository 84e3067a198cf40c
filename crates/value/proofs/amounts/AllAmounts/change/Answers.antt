use Rattle.std.proofs.Common.{List, map}
use Rattle.model.specs.Value.{Policy}
use Rattle.value.specs.View.{policy_of}
use Rattle.value.proofs.Lists.{rest_here, rest_none}
use Rattle.value.proofs.Adding.{ChangingAll, changing_no_policy, changing_more_policies, changing_all_policies}
use Rattle.value.proofs.amounts.AllAmounts.change.Goals as goal

pub loop-policy-init : goal.loop-policy-init
loop-policy-init g c = changing_no_policy g.Q.Quantity.whole c.args.side c.args.self.now (map policy_of c.args.policies.now) c.requires.present c.requires.room c.requires.differ

pub change_policy-requires : goal.change_policy-requires
change_policy-requires g c =
    let all = map policy_of c.args.policies.now in
    let here = rest_here policy_of (λ (rest : List (Policy g.row.Q.Denot)). ChangingAll g.Q.Quantity.whole c.args.side c.args.self.now c.loop-policy.self all rest) c.args.policies.now c.loop-policy.policy-index c.policy-item.result c.loop-policy-test.true c.policy-item.is c.loop-policy.invariant in
    record { present = here.present.0; differ = here.differ.0; room = here.room.0 }

pub loop-policy-preserved : goal.loop-policy-preserved
loop-policy-preserved g c =
    let all = map policy_of c.args.policies.now in
    let here = rest_here policy_of (λ (rest : List (Policy g.row.Q.Denot)). ChangingAll g.Q.Quantity.whole c.args.side c.args.self.now c.loop-policy.self all rest) c.args.policies.now c.loop-policy.policy-index c.policy-item.result c.loop-policy-test.true c.policy-item.is c.loop-policy.invariant in
    changing_more_policies g.Q.Quantity.whole c.args.side c.args.self.now c.loop-policy.self c.change_policy.new.self all _ (policy_of c.policy-item.result) here c.change_policy.ensures.sums c.change_policy.ensures.others c.change_policy.ensures.bounded

pub returns : goal.returns
returns g c =
    let all = map policy_of c.args.policies.now in
    let done = rest_none policy_of (λ (rest : List (Policy g.row.Q.Denot)). ChangingAll g.Q.Quantity.whole c.args.side c.args.self.now c.loop-policy.self all rest) c.args.policies.now c.loop-policy.policy-index c.loop-policy-test.false c.loop-policy.invariant in
    record { sums = changing_all_policies g.Q.Quantity.whole c.args.side c.args.self.now c.loop-policy.self all done; bounded = done.bounded tt; others = done.touched.others }
