use Rattle.model.specs.Rules.{reasons, passes, reason_against}
use Rattle.model.proofs.Reasons.{all_numbered, listed, fails_in, holds_before, each_holds, none_fails, first_told}
use Rattle.model.proofs.rules.first_reason.Goals as goal

pub returns-clause-told : goal.returns-clause-told
unfolding reason_against
returns-clause-told c = λ verifies params utxo slot t r. (
  λ is. (fails_in (passes verifies params utxo slot t) reasons r is, λ other before. holds_before (passes verifies params utxo slot t) 1 reasons r other all_numbered is (listed other) before),
  λ first. first_told (passes verifies params utxo slot t) r first.0 first.1,
)

pub returns-clause-none : goal.returns-clause-none
unfolding reason_against
returns-clause-none c = λ verifies params utxo slot t.
    (λ none r. each_holds (passes verifies params utxo slot t) reasons r none (listed r), none_fails (passes verifies params utxo slot t) reasons)
