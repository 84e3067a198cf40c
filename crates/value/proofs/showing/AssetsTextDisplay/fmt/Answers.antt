use Rattle.std.proofs.Common.{rules}
use Rattle.std.proofs.Output.{has_written_append, has_written_of_eq}
use Rattle.value.specs.Texts.{policy_text}
use Rattle.value.specs.View.{policy_of}
use Rattle.value.proofs.Texts.{one_more_text, all_texts}
use Rattle.value.proofs.showing.AssetsTextDisplay.fmt.Goals as goal

pub loop-policy-preserved : goal.loop-policy-preserved
loop-policy-preserved g c =
    λ p. has_written_of_eq _ _ _ _ _ (one_more_text policy_of policy_text c.args.self.now.policies.now c.loop-policy.policy-index c.policy-item.result c.loop-policy-test.true c.policy-item.is)
    (has_written_append _ _ _ _ _ _ (c.loop-policy.invariant p) (search rules))

pub returns-clause-writes : goal.returns-clause-writes
returns-clause-writes g c =
    λ p ok. has_written_of_eq _ _ _ _ _ (all_texts policy_of policy_text c.args.self.now.policies.now c.loop-policy.policy-index c.loop-policy-test.false)
    (c.loop-policy.invariant p)
