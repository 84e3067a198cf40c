use Rattle.std.proofs.Common.{ℕ, ℤ, List, ◌++◌, map, sym, ap, ◌∙◌}
use Rattle.cbor.proofs.ForCallers.{map_twice}
use Rattle.model.specs.Value.{Policy}
use Rattle.value.specs.declared.assets.Policy.{Policy as CodePolicy}
use Rattle.value.specs.View.{policy_of}
use Rattle.utxo_rules.proofs.Gathered.{all_gathered}
use Rattle.utxo_rules.proofs.witnesses.with_policies.Goals as goal

pub returns : goal.returns
returns c =
    let policies = c.policies-policies.result.now in
    all_gathered (λ (policy : CodePolicy ℤ). policy.id.bytes) c.args.hashes.items c.loop-policy.all.items policies c.loop-policy.policy-index c.loop-policy-test.false c.loop-policy.invariant
    ∙ ap (λ (ids : List (List ℕ)). c.args.hashes.items ++ ids)
    (sym (map_twice (λ (policy : Policy ℤ). policy.id) policy_of policies) ∙ ap (λ (ps : List (Policy ℤ)). map (λ policy. policy.id) ps) c.policies-policies.ensures)
