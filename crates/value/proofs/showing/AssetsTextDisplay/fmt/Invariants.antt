-- What was written is the policies so far.
use Rattle.std.specs.Fmt.{HasWritten, IsPlainFormatter}
use Rattle.value.specs.Texts.{policy_text}
use Rattle.value.specs.View.{policy_of}
use Rattle.value.proofs.Texts.{texts_to}
use Rattle.value.proofs.showing.AssetsTextDisplay.fmt.Given as goal

abbrev pub invariant-loop-policy : goal.invariant-loop-policy
invariant-loop-policy g l =
    IsPlainFormatter l.initial.f → HasWritten g.W.Write.write_str_gives l.initial.f (texts_to policy_of policy_text l.policy-items l.policy-index) l.f
