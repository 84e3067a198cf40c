use Rattle.std.proofs.Common.{ℕ, List, map, refl, sym, ap, ◌∙◌}
use Rattle.ident.specs.Kinds.{ScriptHash}
use Rattle.watching.specs.Which.{ByteStrings, Policies}
use Rattle.watching.proofs.Choosing.{one_held, all_held, map_has, set_has, same_choice}
use Rattle.watching.proofs.which.Which.policies.Goals as goal

abbrev bytes : ScriptHash → List ℕ
bytes h = h.bytes

pub loop-policy-preserved : goal.loop-policy-preserved
loop-policy-preserved c =
    one_held bytes bytes c.args.policies.now c.loop-policy.hashes.keys c.insert.new.self.keys c.loop-policy.policy-index c.policy-item.result c.policy-item.result
    c.loop-policy-test.true c.policy-item.is refl c.in_ok-insert.ensures.keys c.loop-policy.invariant

pub returns : goal.returns
returns c =
    let ks = c.loop-policy.hashes.keys in
    let xs = c.args.policies.now in
    let all = all_held bytes bytes xs ks c.loop-policy.policy-index c.loop-policy-test.false c.loop-policy.invariant in
    ap (λ (s : ByteStrings). Policies s)
    (same_choice (map bytes ks) (map bytes xs) (λ q. sym (map_has bytes ks q ∙ set_has (map bytes ks) q) ∙ all q ∙ map_has bytes xs q ∙ set_has (map bytes xs) q))
