use Rattle.model.proofs.ExampleValues.{starts_at_24, long_slot_23, deepest_script, too_deep_script}
use Rattle.model.proofs.examples.texts_of_scripts.Goals as goal

pub returns-clause-starts_at_24 : goal.returns-clause-starts_at_24
returns-clause-starts_at_24 c = starts_at_24

pub returns-clause-long_23 : goal.returns-clause-long_23
returns-clause-long_23 c = long_slot_23

pub returns-clause-deepest : goal.returns-clause-deepest
returns-clause-deepest c = deepest_script

pub returns-clause-too_deep : goal.returns-clause-too_deep
returns-clause-too_deep c = too_deep_script
