-- The two laws of reading a pair, and what is found and refused by them.
use Rattle.std.proofs.Common.{◌≡◌, ℕ, suc, ◌≤◌, ◌<◌, List, ◌++◌, length, Some, None, refl, ap, ◌∙◌, arith}
use Rattle.std.specs.Prelude.{Result, Ok, Err, IfOk, IfErr}
use Rattle.model.specs.Limits.{hash_size}
use Rattle.model.specs.Cbor.{Bytes, text_of, nesting, IsInRange, HasText}
use Rattle.model.specs.Value.{item_of_value, SpellsValue}
use Rattle.model.specs.Transaction.{Credential, KeyHash, ScriptHash, Input, Output, payment_hash, payment_bytes, address_bytes, item_of_input, item_of_output, IsInput, IsOutput, IsAddress}
use Rattle.cbor.specs.Gives.{Gives, IfMalformed}
use Rattle.cbor.specs.declared.fault.CborFault.{CborFault}
use Rattle.cbor.specs.declared.fault.CborFault.TheVariants as faults
use Rattle.cbor.proofs.ForCallers.{IsBytes, AllByRecursion-bytes, ReadsItem, fixed_reads, bounded_reads, as_reads, made_reads, deeper_reads, last_reads, both_reads, array_reads, has_text, text_fits}
use Rattle.tx.specs.Reading.{input_with, input_at, address_of_bytes, address_at, output_with, output_at}
use Rattle.tx.proofs.ForCallers.{address_read, address_again}
use Rattle.value.proofs.ForCallers.{value_reads}
use Rattle.snapshot.specs.Snapshot.{item_of_pair, pair_text, IsPair}
use Rattle.snapshot.specs.Reading.{pair_at}
use Rattle.snapshot.specs.Faults.{BeginsWithNone}

input_reads : ReadsItem item_of_input IsInput 2 input_at
unfolding input_at
input_reads =
    as_reads input_with item_of_input IsInput (λ x p. (refl, record { transaction = p.0; index = omega (arith, p.1) })) (λ i p. ((i.transaction, i.index), (p.transaction, omega (arith, p.index)), refl))
    (array_reads 2 (omega arith) (λ x. refl) (both_reads (fixed_reads 0 hash_size (omega arith)) (last_reads (bounded_reads 0 65536))))

payment_length : (network : ℕ) (c : Credential) → length (payment_hash c) ≡ hash_size → length (payment_bytes network c) ≡ 33
payment_length network (KeyHash hash) len = ap suc len
payment_length network (ScriptHash hash) len = ap suc len

address_reads : (depth : ℕ) → ReadsItem (λ a. Bytes (address_bytes a)) IsAddress (suc depth) address_at
unfolding address_at
address_reads depth =
    made_reads address_of_bytes (λ a. Bytes (address_bytes a)) IsAddress (λ bytes a len e. let r = address_read bytes a len e in (ap Bytes r.0, r.1)) (λ a is. (address_bytes a, payment_length a.network a.payment is.hash, refl, address_again a is)) (fixed_reads depth 33 (omega arith))

output_reads : ReadsItem item_of_output IsOutput 5 output_at
unfolding output_at
output_reads =
    as_reads output_with item_of_output IsOutput (λ x p. (refl, record { address = p.0; value = p.1 })) (λ o p. ((o.address, o.value), (p.address, p.value), refl))
    (array_reads 2 (omega arith) (λ x. refl) (both_reads (address_reads 3) (last_reads value_reads)))

pair_reads : ReadsItem item_of_pair (λ p. IsInput p.0 × IsOutput p.1) 6 pair_at
unfolding pair_at
pair_reads = array_reads 2 (omega arith) (λ x. refl) (both_reads (deeper_reads 5 (omega arith) input_reads) (last_reads output_reads))

-- a pair that was read
pub pair_found : (bytes : List ℕ) (p : Input × Output) (rest : List ℕ) → IsBytes bytes → pair_at bytes ≡ Some (p, rest) → (bytes ≡ pair_text p ++ rest) × IsPair p
unfolding pair_text
pair_found bytes p rest fits e =
    let t = pair_reads.takes bytes p rest fits e in
    (t.0.takes.parts, record { input = t.1.0; output = t.1.1; has_text = has_text (omega arith) t.0 })

pair_again : (p : Input × Output) (rest : List ℕ) → IsPair p → pair_at (pair_text p ++ rest) ≡ Some (p, rest)
unfolding pair_text
pair_again p rest is = pair_reads.again p rest (text_fits is.has_text) (is.input, is.output)

begins_with_none : (bytes : List ℕ) → pair_at bytes ≡ None → BeginsWithNone bytes
begins_with_none bytes none p rest is text =
    let again : pair_at bytes ≡ Some (p, rest) = ap pair_at text ∙ pair_again p rest is in
    absurd cc

module _ {X : Type 0} (view : X → (Input × Output) × List ℕ) (bytes : List ℕ) where
  pub text_found : (r : Result X CborFault) → IsBytes bytes → Gives view r (pair_at bytes) → IfOk r (λ x. bytes ≡ pair_text (view x).0 ++ (view x).1)
  text_found (Ok x) fits e = (pair_found bytes (view x).0 (view x).1 fits e).0
  text_found (Err fault) fits e = tt

  pub is_pair_found : (r : Result X CborFault) → IsBytes bytes → Gives view r (pair_at bytes) → IfOk r (λ x. IsPair (view x).0)
  is_pair_found (Ok x) fits e = (pair_found bytes (view x).0 (view x).1 fits e).1
  is_pair_found (Err fault) fits e = tt

  pub none_found : (r : Result X CborFault) → Gives view r (pair_at bytes) → IfErr r (λ fault. IfMalformed fault (BeginsWithNone bytes))
  none_found (Ok x) e = tt
  none_found (Err faults.Malformed) e = begins_with_none bytes e
  none_found (Err faults.OutOfMemory) e = tt

-- ---- what is written

address_in_range : (network : ℕ) (c : Credential) → IsInRange (Bytes (payment_hash c)) → length (payment_hash c) ≡ hash_size → network < 16 → IsInRange (Bytes (payment_bytes network c))
address_in_range network (KeyHash hash) bytes len lt = (omega (arith, len), (omega (arith, lt), bytes.1))
address_in_range network (ScriptHash hash) bytes len lt = (omega (arith, len), (omega (arith, lt), bytes.1))

-- an output of parts in range has a text
pub output_has_text : (o : Output) → IsAddress o.address → IsInRange (Bytes (payment_hash o.address.payment)) → SpellsValue o.value (text_of (item_of_value o.value)) → nesting (item_of_value o.value) ≤ 4 → IsOutput o × HasText (item_of_output o)
output_has_text o address bytes value deep =
    let has = value.spelled.has_text in
    let text : HasText (item_of_output o) = record {
      in_range = (omega arith, (address_in_range o.address.network o.address.payment bytes address.hash address.network, (has.in_range, tt)));
      rising = (tt, (has.rising, tt));
      nests = omega (arith, deep);
    } in
    (record { address = address; value = value.is_value }, text)

-- so has a pair of such parts
pub pair_has_text : (i : Input) (o : Output) → IsInput i → IsBytes i.transaction → IsOutput o → HasText (item_of_output o) → nesting (item_of_output o) ≤ 5 → IsPair (i, o)
pair_has_text i o input bytes output has deep =
    let len = input.transaction in
    let small = input.index in
    let text : HasText (item_of_pair (i, o)) = record {
      in_range = (omega arith, ((omega arith, ((omega (arith, len), AllByRecursion-bytes i.transaction bytes), (omega (arith, small), tt))), (has.in_range, tt)));
      rising = ((tt, (tt, tt)), (has.rising, tt));
      nests = omega (arith, deep);
    } in
    record { input = input; output = output; has_text = text }
