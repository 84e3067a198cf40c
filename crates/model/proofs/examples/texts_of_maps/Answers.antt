use Rattle.model.proofs.ExampleTexts.{keys_rise, keys_fall, keys_equal}
use Rattle.model.proofs.examples.texts_of_maps.Goals as goal

pub returns-clause-rising : goal.returns-clause-rising
returns-clause-rising c = keys_rise

pub returns-clause-falling : goal.returns-clause-falling
returns-clause-falling c = keys_fall

pub returns-clause-equal : goal.returns-clause-equal
returns-clause-equal c = keys_equal
