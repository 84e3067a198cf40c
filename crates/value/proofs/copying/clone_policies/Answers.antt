use Rattle.std.proofs.Common.{◌≡◌, map, ap, ◌∙◌}
use Rattle.value.specs.declared.assets.Policy.{Policy}
use Rattle.value.specs.View.{token_of, policy_of}
use Rattle.value.proofs.Copies.{one_copied, all_copied}
use Rattle.value.proofs.copying.clone_policies.Goals as goal

pub loop-policy-preserved : goal.loop-policy-preserved
loop-policy-preserved g c =
    let x = c.policy-item.result in
    let copy : Policy _ = record { id = x.id; tokens = c.in_ok-tokens.tokens } in
    let same : policy_of copy ≡ policy_of x = ap (λ ts. record { id = x.id.bytes; tokens = ts }) (c.in_ok-tokens.ensures ∙ ap (map token_of) c.deref.ensures.value) in
    one_copied policy_of c.loop-policy.copies.items c.push.new.self.items c.args.policies.now c.loop-policy.policy-index x copy c.loop-policy-test.true c.policy-item.is same c.in_ok-push.ensures.items c.loop-policy.invariant

pub returns : goal.returns
returns g c = all_copied policy_of c.loop-policy.copies.items c.args.policies.now c.loop-policy.policy-index c.loop-policy-test.false c.loop-policy.invariant
