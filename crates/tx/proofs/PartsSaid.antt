-- The parts of a transaction have texts, each by itself.
use Rattle.std.proofs.Common.{◌≡◌, ℕ, ◌+◌, ◌<◌, ◌≤◌, List, [], ◌∷◌, length, get_or, arith}
use Rattle.std.specs.List.{AllByRecursion}
use Rattle.model.specs.Cbor.{text_of, nesting, HasText}
use Rattle.model.specs.Script.{Script, item_of_script, SpellsScript}
use Rattle.model.specs.Value.{item_of_value, SpellsValue}
use Rattle.model.specs.Transaction.{payment_bytes, payment_hash, address_bytes, IsAddress, item_of_output}
use Rattle.cbor.proofs.ForCallers.{AllByRecursion-bytes}
use Rattle.tx.specs.declared.address.Address.{Address}
use Rattle.tx.specs.declared.address.Credential.{Credential}
use Rattle.tx.specs.declared.address.Credential.TheVariants.{Key, Script as ScriptCredential}
use Rattle.tx.specs.declared.input.Input.{Input}
use Rattle.tx.specs.declared.key_witness.KeyWitness.{KeyWitness}
use Rattle.tx.specs.declared.output.Output.{Output}
use Rattle.tx.specs.View.{credential_of, address_of, input_of, output_of, witness_of}
use Rattle.tx.proofs.Depths.{some_nesting}
use Rattle.tx.specs.Said.{IsSaidInput, IsSaidOutput, IsSaidWitness, IsSaidScript}

pub input_said : (i : Input) → IsSaidInput (input_of i)
input_said i =
    let id = i.transaction in
    let index : i.index ≤ 65535 = i.in_range in
    record {
      is_input = record { transaction = id.sized; index = index };
      has_text = record {
        in_range = (omega arith, ((omega (arith, id.sized), AllByRecursion-bytes id.bytes id.fits), (omega (arith, index), tt)));
        rising = (tt, (tt, tt));
        nests = omega arith;
      };
    }

pub witness_said : (w : KeyWitness) → IsSaidWitness (witness_of w)
witness_said w =
    record {
      is_witness = record { key = w.key_sized; signature = w.signature_sized };
      has_text = record {
        in_range = (omega arith, ((omega (arith, w.key_sized), AllByRecursion-bytes w.key w.key_fits), ((omega (arith, w.signature_sized), AllByRecursion-bytes w.signature w.signature_fits), tt)));
        rising = (tt, (tt, tt));
        nests = omega arith;
      };
    }

-- ---- outputs

hash_sized : (c : Credential) → length (payment_hash (credential_of c)) ≡ 32
hash_sized (Key hash) = hash.sized
hash_sized (ScriptCredential hash) = hash.sized

bytes_fit : (network : ℕ) (c : Credential) → network < 16 → AllByRecursion (λ b. b < 256) (payment_bytes network (credential_of c))
bytes_fit network (Key hash) low = (omega (arith, low), AllByRecursion-bytes hash.bytes hash.fits)
bytes_fit network (ScriptCredential hash) low = (omega (arith, low), AllByRecursion-bytes hash.bytes hash.fits)

bytes_counted : (network : ℕ) (c : Credential) → length (payment_bytes network (credential_of c)) ≡ 33
bytes_counted network (Key hash) = omega (arith, hash.sized)
bytes_counted network (ScriptCredential hash) = omega (arith, hash.sized)

address_is : (a : Address) → IsAddress (address_of a)
address_is a = record { network = a.in_range; hash = hash_sized a.payment }

pub output_said : (o : Output) → SpellsValue o.value (text_of (item_of_value o.value)) → nesting (item_of_value o.value) ≤ 4 → IsSaidOutput (output_of o)
output_said o spells shallow =
    let a = o.address in
    let has = spells.spelled.has_text in
    record {
      is_output = record { address = address_is a; value = spells.is_value };
      has_text = record {
        in_range = (omega arith, ((omega (arith, bytes_counted a.network a.payment), bytes_fit a.network a.payment a.in_range), (has.in_range, tt)));
        rising = (tt, (has.rising, tt));
        nests = omega (arith, shallow);
      };
    }

-- it nests one deeper than what it holds
pub output_nests : (o : Output) (depth : ℕ) → depth ≡ nesting (item_of_value o.value) → 1 + depth ≡ nesting (item_of_output (output_of o))
output_nests o depth is = omega (arith, is, some_nesting (item_of_value o.value))

pub script_said : (s : Script) → SpellsScript s (text_of (item_of_script s)) → IsSaidScript s
script_said s spells = record { is_script = spells.shape; has_text = spells.text.has_text }
