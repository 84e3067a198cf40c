use Rattle.model.proofs.ItemTexts.{one_item, items_apart}
use Rattle.model.proofs.texts.one_text_of_items.Goals as goal

pub returns-clause-one : goal.returns-clause-one
returns-clause-one c = one_item

pub returns-clause-apart : goal.returns-clause-apart
returns-clause-apart c = items_apart
