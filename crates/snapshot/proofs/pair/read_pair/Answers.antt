use Rattle.std.proofs.Common.{arith}
use Rattle.tx.specs.View.{input_of, output_of}
use Rattle.snapshot.proofs.PairTexts.{text_found, is_pair_found, none_found}
use Rattle.snapshot.proofs.pair.read_pair.Goals as goal

pub returns-clause-text : goal.returns-clause-text
returns-clause-text c = text_found (λ x. ((input_of x.0, output_of x.1), x.2.now)) c.args.bytes.now c.first_pair.result (λ i. omega (arith, c.type_inv.bytes i)) c.first_pair.ensures

pub returns-clause-pair : goal.returns-clause-pair
returns-clause-pair c = is_pair_found (λ x. ((input_of x.0, output_of x.1), x.2.now)) c.args.bytes.now c.first_pair.result (λ i. omega (arith, c.type_inv.bytes i)) c.first_pair.ensures

pub returns-clause-none : goal.returns-clause-none
returns-clause-none c = none_found (λ x. ((input_of x.0, output_of x.1), x.2.now)) c.args.bytes.now c.first_pair.result c.first_pair.ensures
