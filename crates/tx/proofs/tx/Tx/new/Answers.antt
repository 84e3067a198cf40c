use Rattle.std.proofs.Common.{sym, subst, arith}
use Rattle.std.proofs.lemmas.List.{length-map}
use Rattle.std.proofs.lemmas.Result.{err_from_is_err_and}
use Rattle.model.specs.Cbor.{HasText}
use Rattle.model.specs.Transaction.{item_of_transaction, IsTransaction}
use Rattle.tx.specs.Making.{parts_of}
use Rattle.tx.specs.View.{input_of, witness_of}
use Rattle.tx.specs.declared.parts_fault.PartsFault.TheVariants.{OutOfMemory}
use Rattle.tx.proofs.MadeTexts.{inputs_said, witnesses_said, made_is, made_text}
use Rattle.tx.proofs.Makings.{fault_back, only_memory, refused}
use Rattle.tx.proofs.tx.Tx.new.Goals as goal

pub returns-in_err-check-clause-fault : goal.returns-in_err-check-clause-fault
returns-in_err-check-clause-fault c =
    let p = err_from_is_err_and c.from_residual.result c.from_residual.ensures.1 in
    rw (p.1, p.2) (fault_back (parts_of c.args.parts) (parts_of c.put_in_order.new.self) c.put_in_order.ensures.same c.in_err-check.field-0.0 c.in_err-check.ensures.fault)

pub returns-in_err-check-clause-refused : goal.returns-in_err-check-clause-refused
returns-in_err-check-clause-refused c =
    let p = err_from_is_err_and c.from_residual.result c.from_residual.ensures.1 in
    rw (p.1, p.2) (refused (parts_of c.args.parts) c.in_err-check.field-0.0 (fault_back (parts_of c.args.parts) (parts_of c.put_in_order.new.self) c.put_in_order.ensures.same c.in_err-check.field-0.0 c.in_err-check.ensures.fault))

pub sealed-requires : goal.sealed-requires
sealed-requires c =
    let parts = c.put_in_order.new.self in
    let sound = c.in_ok-check.ensures.sound in
    let numbers = c.into_halves-body.ensures.numbers in
    let inputs = inputs_said parts.inputs.items in
    let signatures = witnesses_said parts.signatures.items in
    let is = made_is (parts_of parts) sound numbers inputs signatures (omega (arith, length-map parts.inputs.items input_of, parts.inputs.ok.0)) (omega (arith, length-map parts.signatures.items witness_of, parts.signatures.ok.0)) (omega (arith, parts.scripts.ok.0)) in
    let text = made_text (parts_of parts) sound numbers inputs signatures (omega (arith, length-map parts.inputs.items input_of, parts.inputs.ok.0)) (omega (arith, length-map parts.signatures.items witness_of, parts.signatures.ok.0)) (omega (arith, parts.scripts.ok.0)) in
    record {
      is_transaction = subst IsTransaction (sym c.into_halves-body.ensures.same) is;
      has_text = subst (λ t. HasText (item_of_transaction t)) (sym c.into_halves-body.ensures.same) text;
    }

pub returns-in_err-sealed-clause-fault : goal.returns-in_err-sealed-clause-fault
returns-in_err-sealed-clause-fault c =
    let p = err_from_is_err_and c.from_residual-in_err-sealed.result c.from_residual-in_err-sealed.ensures.1 in
    rw (p.1, p.2) (fault_back (parts_of c.args.parts) (parts_of c.put_in_order.new.self) c.put_in_order.ensures.same OutOfMemory (only_memory (parts_of c.put_in_order.new.self) c.in_ok-check.ensures.sound))
