use Rattle.model.proofs.ExampleSizes.{payment_size}
use Rattle.model.proofs.ExamplePayments.{payment_accepted, payment_leaves, payment_too_cheap, payment_unsigned, payment_badly_signed}
use Rattle.std.proofs.Common.{[], ◌∷◌}
use Rattle.model.proofs.rule_examples.spend_and_fee.Goals as goal

pub returns-clause-size : goal.returns-clause-size
returns-clause-size c = payment_size

pub returns-clause-accepted : goal.returns-clause-accepted
returns-clause-accepted c = payment_accepted

pub returns-clause-left : goal.returns-clause-left
returns-clause-left c = λ w. payment_leaves w.key (w ∷ [])

pub returns-clause-one_less : goal.returns-clause-one_less
returns-clause-one_less c = payment_too_cheap

pub returns-clause-unsigned : goal.returns-clause-unsigned
returns-clause-unsigned c = payment_unsigned

pub returns-clause-badly_signed : goal.returns-clause-badly_signed
returns-clause-badly_signed c = payment_badly_signed
