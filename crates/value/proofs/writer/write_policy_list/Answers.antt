use Rattle.std.proofs.Common.{◌++◌, map, ap, ◌∙◌, sym, arith, length}
use Rattle.std.specs.Prelude.{vec_capacity}
use Rattle.model.specs.Cbor.{Bytes, text_of, pairs_of, pairs_text, map_of}
use Rattle.model.specs.Value.{entry_of_token, entry_of_policy}
use Rattle.value.specs.View.{token_of, policy_of}
use Rattle.cbor.proofs.ForCallers.{string_written, map_twice, whatever_err, key_lacks_room, value_lacks_room, kept, kept_on, none_written, one_written, all_written}
use Rattle.value.proofs.writer.write_policy_list.Goals as goal

pub returns-clause-ok : goal.returns-clause-ok
returns-clause-ok g c =
    let entry = entry_of_policy g.Q.Quantity.item_of in
    all_written (λ t. entry (policy_of t)) c.args.out.now.items c.loop-policy.out.items c.args.policies.now c.loop-policy.policy-index c.loop-policy-test.false c.loop-policy.invariant.0
    ∙ ap (λ es. c.args.out.now.items ++ pairs_text (pairs_of es)) (sym (map_twice entry policy_of c.args.policies.now))

pub loop-policy-preserved : goal.loop-policy-preserved
loop-policy-preserved g c = (
  one_written (λ t. entry_of_policy g.Q.Quantity.item_of (policy_of t)) c.args.out.now.items c.loop-policy.out.items c.write_byte_string.new.out.items c.write_tokens.new.out.items c.args.policies.now c.loop-policy.policy-index c.policy-item.result c.loop-policy-test.true c.policy-item.is
      (string_written c.loop-policy.out.items c.write_byte_string.new.out.items c.as_slice.result.now c.policy-item.result.id.bytes c.in_ok-write_byte_string.ensures.ok (c.as_slice.ensures ∙ c.as_bytes.ensures))
      (c.in_ok-write_tokens.ensures.ok ∙ ap (λ ts. c.write_byte_string.new.out.items ++ text_of (map_of (map (entry_of_token g.Q.Quantity.item_of) (map token_of ts)))) c.deref.ensures.value)
      c.loop-policy.invariant.0,
  omega (arith, c.loop-policy.invariant.1, c.in_ok-write_byte_string.ensures.capacity, c.in_ok-write_tokens.ensures.capacity),
)

pub loop-policy-init : goal.loop-policy-init
loop-policy-init g c = (none_written (λ t. entry_of_policy g.Q.Quantity.item_of (policy_of t)) c.args.out.now.items c.args.policies.now, omega arith)

pub returns-in_err-write_tokens-clause-keeps : goal.returns-in_err-write_tokens-clause-keeps
returns-in_err-write_tokens-clause-keeps g c =
    kept_on c.args.out.now.items c.loop-policy.out.items c.write_tokens.new.out.items c.loop-policy.invariant.0.keeps
    (kept_on c.loop-policy.out.items c.write_byte_string.new.out.items c.write_tokens.new.out.items (kept c.loop-policy.out.items _ c.write_byte_string.new.out.items c.in_ok-write_byte_string.ensures.ok) c.in_err-write_tokens.ensures.keeps)

pub returns-in_err-write_byte_string-clause-full : goal.returns-in_err-write_byte_string-clause-full
returns-in_err-write_byte_string-clause-full g c =
    let entry = entry_of_policy g.Q.Quantity.item_of in
    whatever_err c.from_residual.result _ (rw (map_twice entry policy_of c.args.policies.now)
    (key_lacks_room (λ t. entry (policy_of t)) c.args.out.now.items c.loop-policy.out.items (text_of (Bytes c.as_slice.result.now)) c.args.policies.now c.loop-policy.policy-index c.policy-item.result _ _ c.loop-policy-test.true c.policy-item.is c.loop-policy.invariant.0
    (ap (λ n. length (text_of (Bytes n))) (c.as_slice.ensures ∙ c.as_bytes.ensures)) c.loop-policy.invariant.1 (omega (arith, c.in_err-write_byte_string.ensures.full, c.loop-policy.out.ok.0))))

pub returns-in_err-write_tokens-clause-full : goal.returns-in_err-write_tokens-clause-full
returns-in_err-write_tokens-clause-full g c =
    let entry = entry_of_policy g.Q.Quantity.item_of in
    let same = ap (λ ts. length (text_of (map_of (map (entry_of_token g.Q.Quantity.item_of) (map token_of ts))))) c.deref.ensures.value in
    whatever_err c.from_residual-in_err-write_tokens.result _ (rw (map_twice entry policy_of c.args.policies.now)
    (value_lacks_room (λ t. entry (policy_of t)) c.args.out.now.items c.loop-policy.out.items c.write_byte_string.new.out.items c.args.policies.now c.loop-policy.policy-index c.policy-item.result _ (vec_capacity c.write_byte_string.new.out) c.loop-policy-test.true c.policy-item.is c.loop-policy.invariant.0
    (string_written c.loop-policy.out.items c.write_byte_string.new.out.items c.as_slice.result.now c.policy-item.result.id.bytes c.in_ok-write_byte_string.ensures.ok (c.as_slice.ensures ∙ c.as_bytes.ensures))
    (omega (arith, c.loop-policy.invariant.1, c.in_ok-write_byte_string.ensures.capacity)) (omega (arith, c.in_err-write_tokens.ensures.full, same))))
