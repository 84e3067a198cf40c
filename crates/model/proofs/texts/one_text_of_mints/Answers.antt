use Rattle.model.proofs.ValueItems.{one_mint, mints_apart}
use Rattle.model.proofs.texts.one_text_of_mints.Goals as goal

pub returns-clause-one : goal.returns-clause-one
returns-clause-one c = one_mint

pub returns-clause-apart : goal.returns-clause-apart
returns-clause-apart c = mints_apart
