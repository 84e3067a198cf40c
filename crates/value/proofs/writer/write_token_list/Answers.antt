use Rattle.std.proofs.Common.{◌++◌, ap, ◌∙◌, sym, arith, length}
use Rattle.model.specs.Cbor.{Bytes, text_of, pairs_of, pairs_text}
use Rattle.model.specs.Value.{entry_of_token}
use Rattle.value.specs.View.{token_of}
use Rattle.cbor.proofs.ForCallers.{string_written, map_twice, whatever_err, key_lacks_room, value_lacks_room, none_written, one_written, all_written}
use Rattle.value.proofs.writer.write_token_list.Goals as goal

pub returns-clause-ok : goal.returns-clause-ok
returns-clause-ok g c =
    let entry = entry_of_token g.Q.Quantity.item_of in
    all_written (λ t. entry (token_of t)) c.args.out.now.items c.loop-token.out.items c.args.tokens.now c.loop-token.token-index c.loop-token-test.false c.loop-token.invariant.0
    ∙ ap (λ es. c.args.out.now.items ++ pairs_text (pairs_of es)) (sym (map_twice entry token_of c.args.tokens.now))

pub loop-token-preserved : goal.loop-token-preserved
loop-token-preserved g c =
    let e = c.deref.ensures.value in (
      one_written (λ t. entry_of_token g.Q.Quantity.item_of (token_of t)) c.args.out.now.items c.loop-token.out.items c.write_byte_string.new.out.items c.write.new.out.items c.args.tokens.now c.loop-token.token-index c.token-item.result c.loop-token-test.true c.token-item.is
          (string_written c.loop-token.out.items c.write_byte_string.new.out.items c.deref.result.now c.token-item.result.name.items c.in_ok-write_byte_string.ensures.ok e) c.in_ok-write.ensures.ok c.loop-token.invariant.0,
      omega (arith, c.loop-token.invariant.1, c.in_ok-write_byte_string.ensures.capacity, c.in_ok-write.ensures.capacity),
    )

pub loop-token-init : goal.loop-token-init
loop-token-init g c = (none_written (λ t. entry_of_token g.Q.Quantity.item_of (token_of t)) c.args.out.now.items c.args.tokens.now, omega arith)

pub returns-in_err-write_byte_string-clause-full : goal.returns-in_err-write_byte_string-clause-full
returns-in_err-write_byte_string-clause-full g c =
    let entry = entry_of_token g.Q.Quantity.item_of in
    whatever_err c.from_residual.result _ (rw (map_twice entry token_of c.args.tokens.now)
    (key_lacks_room (λ t. entry (token_of t)) c.args.out.now.items c.loop-token.out.items (text_of (Bytes c.deref.result.now)) c.args.tokens.now c.loop-token.token-index c.token-item.result _ _ c.loop-token-test.true c.token-item.is c.loop-token.invariant.0
    (ap (λ n. length (text_of (Bytes n))) c.deref.ensures.value) c.loop-token.invariant.1 (omega (arith, c.in_err-write_byte_string.ensures.full, c.loop-token.out.ok.0))))

pub returns-in_err-write-clause-full : goal.returns-in_err-write-clause-full
returns-in_err-write-clause-full g c =
    let entry = entry_of_token g.Q.Quantity.item_of in
    whatever_err c.from_residual-in_err-write.result _ (rw (map_twice entry token_of c.args.tokens.now)
    (value_lacks_room (λ t. entry (token_of t)) c.args.out.now.items c.loop-token.out.items c.write_byte_string.new.out.items c.args.tokens.now c.loop-token.token-index c.token-item.result _ _ c.loop-token-test.true c.token-item.is c.loop-token.invariant.0
    (string_written c.loop-token.out.items c.write_byte_string.new.out.items c.deref.result.now c.token-item.result.name.items c.in_ok-write_byte_string.ensures.ok c.deref.ensures.value)
    (omega (arith, c.loop-token.invariant.1, c.in_ok-write_byte_string.ensures.capacity)) c.in_err-write.ensures.full))
