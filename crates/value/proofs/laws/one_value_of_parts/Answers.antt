use Rattle.value.proofs.OneMaking.{one_value_made}
use Rattle.value.proofs.laws.one_value_of_parts.Goals as goal

pub returns : goal.returns
returns c = one_value_made
