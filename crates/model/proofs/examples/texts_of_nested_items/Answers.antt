use Rattle.model.proofs.ExampleTexts.{deepest, too_deep}
use Rattle.model.proofs.examples.texts_of_nested_items.Goals as goal

pub returns-clause-deepest : goal.returns-clause-deepest
returns-clause-deepest c = deepest

pub returns-clause-too_deep : goal.returns-clause-too_deep
returns-clause-too_deep c = too_deep
