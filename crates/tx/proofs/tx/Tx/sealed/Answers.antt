use Rattle.std.proofs.Common.{drop, ap, ◌∙◌, arith}
use Rattle.tx.specs.BodyView.{body_of}
use Rattle.tx.specs.WitnessesView.{witnesses_of}
use Rattle.tx.specs.Making.{transaction_of_halves}
use Rattle.tx.proofs.Sealing.{sealed_id, sealed_size}
use Rattle.tx.proofs.tx.Tx.sealed.Goals as goal

pub invariant_of-result : goal.invariant_of-result
invariant_of-result c =
    let t = transaction_of_halves (body_of c.args.body) (witnesses_of c.args.witnesses) in
    let headed = c.write_array.new.out in
    let bodied = c.write.new.out in
    let whole = c.write_null.new.out in
    record {
      is_transaction = c.requires.is_transaction;
      has_text = c.requires.has_text;
      id = sealed_id t headed.items bodied.items c.split_at.result.1.now c.of_body-id.result.bytes c.len-start.result (omega (arith, c.len-start.ensures, headed.ok.0)) c.in_ok-write.ensures.ok (c.split_at.ensures.back ∙ ap (drop c.len-start.result) c.deref.ensures.value) c.of_body-id.ensures;
      size = sealed_size t c.new-text.result.items headed.items bodied.items c.write-2.new.out.items whole.items c.len.result c.new-text.ensures.items c.in_ok-write_array.ensures.ok c.in_ok-write.ensures.ok c.in_ok-write-2.ensures.ok c.in_ok-write_null.ensures.ok (omega (arith, c.len.ensures, whole.ok.0));
    }
