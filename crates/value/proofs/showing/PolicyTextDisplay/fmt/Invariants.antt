-- What was written is the tokens so far.
use Rattle.std.specs.Fmt.{HasWritten, IsPlainFormatter}
use Rattle.value.specs.Texts.{token_text}
use Rattle.value.specs.View.{token_of}
use Rattle.value.proofs.Texts.{texts_to}
use Rattle.value.proofs.showing.PolicyTextDisplay.fmt.Given as goal

abbrev pub invariant-loop-token : goal.invariant-loop-token
invariant-loop-token g l =
    IsPlainFormatter l.initial.f → HasWritten g.W.Write.write_str_gives l.initial.f (texts_to token_of (token_text l.self.policy.now.id.bytes) l.token-items l.token-index) l.f
