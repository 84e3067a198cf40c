use Rattle.model.proofs.ValueItems.{one_value, values_apart}
use Rattle.model.proofs.texts.one_text_of_values.Goals as goal

pub returns-clause-one : goal.returns-clause-one
returns-clause-one c = one_value

pub returns-clause-apart : goal.returns-clause-apart
returns-clause-apart c = values_apart
