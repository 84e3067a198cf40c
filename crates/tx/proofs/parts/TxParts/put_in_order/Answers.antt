use Rattle.std.proofs.Common.{refl}
use Rattle.std.proofs.lemmas.List.Sorted.{IsPermutation-map}
use Rattle.tx.specs.View.{input_of, witness_of}
use Rattle.tx.proofs.parts.TxParts.put_in_order.Goals as goal

pub returns-clause-same : goal.returns-clause-same
returns-clause-same c = record {
  inputs = IsPermutation-map input_of c.args.self.now.inputs.items c.put_in_order.new.parts.items c.put_in_order.ensures.same;
  outputs = refl;
  fee = refl;
  interval = refl;
  mint = refl;
  signatures = IsPermutation-map witness_of c.args.self.now.signatures.items c.put_in_order-2.new.parts.items c.put_in_order-2.ensures.same;
  scripts = c.put_in_order-3.ensures.same;
}
