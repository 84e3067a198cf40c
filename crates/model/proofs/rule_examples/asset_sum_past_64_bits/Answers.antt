use Rattle.model.proofs.ExampleMints.{halves_refused}
use Rattle.model.proofs.rule_examples.asset_sum_past_64_bits.Goals as goal

pub returns : goal.returns
returns c = λ verifies w policy is long. halves_refused verifies w is policy long
