use Rattle.std.proofs.Common.{sym, subst}
use Rattle.value.specs.Listed.{listed}
use Rattle.value.specs.Totals.{total_of, policies_met}
use Rattle.scenario.specs.Gathered.{AreListed}
use Rattle.scenario.proofs.AssetLines.{all_flat, are_listed, flat}
use Rattle.scenario.proofs.balance.gather.Goals as goal

pub returns : goal.returns
returns c =
    let total = total_of c.args.totals.now in
    let all = listed (policies_met c.args.totals.now) in
    let whole = all_flat (flat all) c.loop-policy.gathered.items c.loop-policy.policy-iterator c.in-None.ensures.steps.0 c.loop-policy.invariant in
    subst (AreListed total) (sym whole) (are_listed total all c.policies-policy-items.ensures.ordered c.policies-policy-items.ensures.listed)
