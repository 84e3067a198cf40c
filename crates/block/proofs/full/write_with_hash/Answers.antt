use Rattle.std.proofs.Common.{◌≡◌, ◌++◌, option_map, refl, rules}
use Rattle.sha2.specs.Sha256.{sha256}
use Rattle.model.specs.Cbor.{head, text_of}
use Rattle.model.specs.Block.{item_of_header}
use Rattle.model.proofs.Results.{if_err}
use Rattle.block.specs.declared.header.Header as code
use Rattle.block.specs.declared.fault.NoText.TheVariants.{OutOfMemory}
use Rattle.block.specs.View.{bytes_of, header_of}
use Rattle.block.specs.Written.{full_block, IsNoText}
use Rattle.block.proofs.FullBlocks.{full_header, full_is_written, full_is_hashed, too_deep}
use Rattle.block.proofs.full.write_with_hash.Goals as goal

pub returns-in-Some-clause-fault : goal.returns-in-Some-clause-fault
returns-in-Some-clause-fault c =
    record { header = full_header c.args.number c.args.slot c.args.previous c.args.transactions.now c.if-number-ge-NUMBER_LIMIT.false c.if-slot-ge-NUMBER_LIMIT.false; first = c.in-Some.ensures.some }

pub returns-in-Some-clause-none : goal.returns-in-Some-clause-none
returns-in-Some-clause-none c = λ bytes spelled.
    too_deep c.in-Some.index (full_block c.args.number c.args.slot (option_map bytes_of c.args.previous) c.args.transactions.now) bytes c.in-Some.ensures.some spelled

pub returns-in_err-body-clause-fault : goal.returns-in_err-body-clause-fault
returns-in_err-body-clause-fault c =
    let block = full_block c.args.number c.args.slot (option_map bytes_of c.args.previous) c.args.transactions.now in
    let header = full_header c.args.number c.args.slot c.args.previous c.args.transactions.now c.if-number-ge-NUMBER_LIMIT.false c.if-slot-ge-NUMBER_LIMIT.false in
    if_err c.from_residual.result OutOfMemory (IsNoText block) c.from_residual.ensures.1 (record { header = header; transactions = c.in_default.ensures.none refl })

pub returns-in_err-join-clause-fault : goal.returns-in_err-join-clause-fault
returns-in_err-join-clause-fault c =
    let block = full_block c.args.number c.args.slot (option_map bytes_of c.args.previous) c.args.transactions.now in
    let header = full_header c.args.number c.args.slot c.args.previous c.args.transactions.now c.if-number-ge-NUMBER_LIMIT.false c.if-slot-ge-NUMBER_LIMIT.false in
    if_err c.from_residual-in_err-join.result OutOfMemory (IsNoText block) c.from_residual-in_err-join.ensures.1 (record { header = header; transactions = c.in_default.ensures.none refl })

pub returns-clause-ok : goal.returns-clause-ok
returns-clause-ok c =
    let body = c.in_ok-body.body.items in
    let header : code.Header = record { number = c.args.number; slot = c.args.slot; previous = c.args.previous; body_hash = c.of_body.result } in
    let hash : c.of_body.result.bytes ≡ sha256 body = search (rules, c.of_body.ensures, c.deref.ensures.value) in
    let text : c.in_ok-join.field-0.0.items ≡ head 4 2 ++ (text_of (item_of_header (header_of header)) ++ body) = search (rules, c.in_ok-join.ensures.text, c.deref-2.ensures.value) in
    full_is_written header c.args.transactions.now body c.in_ok-join.field-0.0.items c.if-number-ge-NUMBER_LIMIT.false c.if-slot-ge-NUMBER_LIMIT.false (c.in_default.ensures.counted refl) (c.in_default.ensures.none refl) c.in_ok-body.ensures hash text

pub returns-clause-hash : goal.returns-clause-hash
returns-clause-hash c =
    let header : code.Header = record { number = c.args.number; slot = c.args.slot; previous = c.args.previous; body_hash = c.of_body.result } in
    let hash : c.of_body.result.bytes ≡ sha256 c.in_ok-body.body.items = search (rules, c.of_body.ensures, c.deref.ensures.value) in
    full_is_hashed header c.args.transactions.now c.in_ok-body.body.items c.in_ok-join.field-0.1.bytes c.in_ok-body.ensures hash c.in_ok-join.ensures.hash
