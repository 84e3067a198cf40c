use Rattle.model.proofs.ExampleTexts.{unsigned_0, unsigned_24, unsigned_256, minus_1000, null}
use Rattle.model.proofs.examples.texts_of_numbers.Goals as goal

pub returns-clause-zero : goal.returns-clause-zero
returns-clause-zero c = unsigned_0

pub returns-clause-one_byte_more : goal.returns-clause-one_byte_more
returns-clause-one_byte_more c = unsigned_24

pub returns-clause-two_bytes_more : goal.returns-clause-two_bytes_more
returns-clause-two_bytes_more c = unsigned_256

pub returns-clause-minus_1000 : goal.returns-clause-minus_1000
returns-clause-minus_1000 c = minus_1000

pub returns-clause-null : goal.returns-clause-null
returns-clause-null c = null
