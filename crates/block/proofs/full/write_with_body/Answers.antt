use Rattle.std.proofs.Common.{List, ℕ, option_map, ap, subst, ◌∙◌, arith}
use Rattle.sha2.specs.Sha256.{sha256}
use Rattle.model.specs.Cbor.{text_of}
use Rattle.model.specs.Block.{IsHeader, item_of_header}
use Rattle.block.specs.declared.header.Header as code
use Rattle.block.specs.View.{bytes_of}
use Rattle.block.specs.Written.{text_over}
use Rattle.block.proofs.FullBlocks.{full_is_written, full_is_hashed, few_in_body}
use Rattle.block.proofs.Texts.{is_header}
use Rattle.block.proofs.full.write_with_body.Goals as goal

pub returns-clause-ok : goal.returns-clause-ok
returns-clause-ok c = λ txs is.
    let header : code.Header = record { number = c.args.number; slot = c.args.slot; previous = c.args.previous; body_hash = c.of_body.result } in
    full_is_written header txs c.args.body.now c.in_ok-join.field-0.0.items c.if-number-ge-NUMBER_LIMIT.false c.if-slot-ge-NUMBER_LIMIT.false (few_in_body txs c.args.body.now (omega arith) is.spelled) is.fit is.spelled c.of_body.ensures c.in_ok-join.ensures.text

pub returns-clause-hash : goal.returns-clause-hash
returns-clause-hash c = λ txs is.
    let header : code.Header = record { number = c.args.number; slot = c.args.slot; previous = c.args.previous; body_hash = c.of_body.result } in
    full_is_hashed header txs c.args.body.now c.in_ok-join.field-0.1.bytes is.spelled c.of_body.ensures c.in_ok-join.ensures.hash

pub returns-clause-text : goal.returns-clause-text
returns-clause-text c =
    c.in_ok-join.ensures.text ∙ ap (λ (digest : List ℕ). text_over (record { number = c.args.number; slot = c.args.slot; previous = option_map bytes_of c.args.previous; body_hash = digest }) c.args.body.now) c.of_body.ensures

pub returns-clause-digest : goal.returns-clause-digest
returns-clause-digest c =
    c.in_ok-join.ensures.hash ∙ ap (λ (digest : List ℕ). sha256 (text_of (item_of_header (record { number = c.args.number; slot = c.args.slot; previous = option_map bytes_of c.args.previous; body_hash = digest })))) c.of_body.ensures

pub returns-clause-range : goal.returns-clause-range
returns-clause-range c =
    let header : code.Header = record { number = c.args.number; slot = c.args.slot; previous = c.args.previous; body_hash = c.of_body.result } in
    subst (λ (digest : List ℕ). IsHeader (record { number = c.args.number; slot = c.args.slot; previous = option_map bytes_of c.args.previous; body_hash = digest })) c.of_body.ensures
    (is_header header c.if-number-ge-NUMBER_LIMIT.false c.if-slot-ge-NUMBER_LIMIT.false)
