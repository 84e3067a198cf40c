use Rattle.model.proofs.ExampleTexts.{long_23, long_255, undefined, nothing}
use Rattle.model.proofs.examples.no_texts.Goals as goal

pub returns-clause-long_23 : goal.returns-clause-long_23
returns-clause-long_23 c = long_23

pub returns-clause-long_255 : goal.returns-clause-long_255
returns-clause-long_255 c = long_255

pub returns-clause-undefined : goal.returns-clause-undefined
returns-clause-undefined c = undefined

pub returns-clause-nothing : goal.returns-clause-nothing
returns-clause-nothing c = nothing
