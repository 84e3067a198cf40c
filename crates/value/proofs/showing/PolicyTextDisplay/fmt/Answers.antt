use Rattle.std.proofs.Common.{rules, map, ap, ◌∙◌}
use Rattle.std.specs.Prelude.{flat_map}
use Rattle.std.proofs.Output.{has_written_append, has_written_of_eq}
use Rattle.value.specs.Texts.{token_text}
use Rattle.value.specs.View.{token_of}
use Rattle.value.proofs.Texts.{one_more_text, all_texts}
use Rattle.value.proofs.showing.PolicyTextDisplay.fmt.Goals as goal

pub loop-token-preserved : goal.loop-token-preserved
loop-token-preserved g c =
    let text = token_text c.args.self.now.policy.now.id.bytes in
    λ p. has_written_of_eq _ _ _ _ _ (one_more_text token_of text c.deref-token-items.result.now c.loop-token.token-index c.token-item.result c.loop-token-test.true c.token-item.is)
    (has_written_append _ _ _ _ _ _ (c.loop-token.invariant p) (search rules))

pub returns-clause-writes : goal.returns-clause-writes
returns-clause-writes g c =
    let text = token_text c.args.self.now.policy.now.id.bytes in
    λ p ok. has_written_of_eq _ _ _ _ _
    (all_texts token_of text c.deref-token-items.result.now c.loop-token.token-index c.loop-token-test.false ∙ ap (λ items. flat_map text (map token_of items)) c.deref-token-items.ensures.value)
    (c.loop-token.invariant p)
