use Rattle.std.proofs.Common.{◌≡◌, ℕ, Bool, true, false, List, map, sym, ap, ◌∙◌}
use Rattle.std.specs.List.{list_any}
use Rattle.std.specs.FinSet as set
use Rattle.model.specs.Value.{Policy}
use Rattle.ident.specs.Kinds.{ScriptHash}
use Rattle.value.specs.View.{policy_of}
use Rattle.value.specs.declared.assets.Policy.{Policy as CodePolicy}
use Rattle.watching.specs.Owned.{owner_cmp}
use Rattle.watching.proofs.Choosing.{one_seen, one_passes, none_passes, any_of_map, map_has}
use Rattle.watching.proofs.which.is_held.Goals as goal

abbrev bytes : ScriptHash → List ℕ
bytes h = h.bytes

-- the set has this policy
abbrev test : List ScriptHash → List ℕ → Bool
test ks id = set.contains (set.from_list {R = owner_cmp} (map bytes ks)) id

abbrev of_code : List ScriptHash → CodePolicy ℕ → Bool
of_code ks p = test ks p.id.bytes

-- asked of the policies of the code, and of those that they stand for
told : (ks : List ScriptHash) (ps : List (CodePolicy ℕ)) (assets : List (Policy ℕ)) → map policy_of ps ≡ assets → list_any (of_code ks) ps ≡ list_any (λ p. test ks p.id) assets
told ks ps assets are = any_of_map (λ (p : Policy ℕ). test ks p.id) policy_of ps ∙ ap (list_any (λ (p : Policy ℕ). test ks p.id)) are

pub returns-then-contains : goal.returns-then-contains
returns-then-contains c =
    let ks = c.args.policies.now.keys in
    let ps = c.assets-policy-items.result.now in
    let x = c.policy-item.result in
    let there : of_code ks x ≡ true = sym (map_has bytes ks x.id.bytes) ∙ sym c.if-contains.ensures in
    one_passes (of_code ks) ps c.loop-policy.policy-index x c.loop-policy-test.true c.policy-item.is there c.loop-policy.invariant
    ∙ told ks ps c.args.value.now.assets c.assets-policy-items.ensures

pub loop-policy-preserved : goal.loop-policy-preserved
loop-policy-preserved c =
    let ks = c.args.policies.now.keys in
    let x = c.policy-item.result in
    let missed : of_code ks x ≡ false = sym (map_has bytes ks x.id.bytes) ∙ sym c.if-contains.ensures in
    one_seen (of_code ks) c.assets-policy-items.result.now c.loop-policy.policy-index x c.loop-policy-test.true c.policy-item.is missed c.loop-policy.invariant

pub returns : goal.returns
returns c =
    let ks = c.args.policies.now.keys in
    let ps = c.assets-policy-items.result.now in
    none_passes (of_code ks) ps c.loop-policy.policy-index c.loop-policy-test.false c.loop-policy.invariant ∙ told ks ps c.args.value.now.assets c.assets-policy-items.ensures
