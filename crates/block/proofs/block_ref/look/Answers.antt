use Rattle.std.proofs.Common.{◌≡◌, length, false, true, refl, subst, arith}
use Rattle.cbor.specs.Bare.{BeginsWithHead}
use Rattle.cbor.specs.Gives.{Refuses, IfWant}
use Rattle.cbor.specs.declared.fault.CborFault.{CborFault}
use Rattle.cbor.specs.declared.fault.CborFault.TheVariants as faults
use Rattle.block.specs.Reading.{block_at}
use Rattle.block.specs.PartsView.{parts_block}
use Rattle.block.proofs.Kept.{is_malformed, is_unread, is_read, is_mismatched, are_facts}
use Rattle.block.proofs.block_ref.look.Goals as goal

pub returns-then-not-is_same-clause-bad : goal.returns-then-not-is_same-clause-bad
returns-then-not-is_same-clause-bad c =
    is_mismatched c.args.bytes.now (parts_block c.in-Ok.parts) c.of_body.result.bytes c.in-Ok.parts.body_text.now (λ i. omega (arith, c.type_inv.bytes i)) c.if-bytes-gt-MAX_BLOCK_SIZE.false c.in-Ok.ensures.exact c.of_body.ensures c.in-Ok.ensures.body_text
    (λ same. let no : false ≡ true = c.if-not-is_same.ensures.1 same in cc)

pub invariant_of-result : goal.invariant_of-result
invariant_of-result c =
    let read = is_read c.args.bytes.now (parts_block c.in-Ok.parts) c.of_body.result.bytes c.in-Ok.parts.body_text.now (λ i. omega (arith, c.type_inv.bytes i)) c.if-bytes-gt-MAX_BLOCK_SIZE.false c.in-Ok.ensures.exact c.of_body.ensures c.in-Ok.ensures.body_text (c.if-not-is_same.ensures.0 refl) in
    are_facts (record { hash = c.of_header.result; header = c.in-Ok.parts.header; body_size = length c.in-Ok.parts.body_text.now }) c.in-Ok.parts.transactions.items c.args.bytes.now c.in-Ok.parts.header_text.now c.in-Ok.parts.body_text.now read c.of_header.ensures refl c.in-Ok.ensures.header_text c.in-Ok.ensures.body_text

pub returns-clause-block : goal.returns-clause-block
returns-clause-block c = (invariant_of-result c).read

pub returns-in-Err-Malformed-clause-bad : goal.returns-in-Err-Malformed-clause-bad
returns-in-Err-Malformed-clause-bad c =
    let none : Refuses faults.Malformed (block_at c.args.bytes.now) = subst (λ (f : CborFault). Refuses f (block_at c.args.bytes.now)) c.in-Err-Malformed.field-0-is c.in-Err-Malformed.ensures.exact in
    is_malformed c.args.bytes.now c.if-bytes-gt-MAX_BLOCK_SIZE.false none

pub returns-in-Err-OutOfMemory-clause-memory : goal.returns-in-Err-OutOfMemory-clause-memory
returns-in-Err-OutOfMemory-clause-memory c =
    let begins : IfWant faults.OutOfMemory (BeginsWithHead 4 2 c.args.bytes.now) = subst (λ (f : CborFault). IfWant f (BeginsWithHead 4 2 c.args.bytes.now)) c.in-Err-OutOfMemory.field-0-is c.in-Err-OutOfMemory.ensures.begins in
    is_unread c.args.bytes.now c.if-bytes-gt-MAX_BLOCK_SIZE.false begins c.in-Err-OutOfMemory.ensures.some
