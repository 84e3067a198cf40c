-- The two laws of reading each part of a transaction, from those of the shapes that it is made of.
use Rattle.std.proofs.Common.{◌≡◌, ◌≢◌, ℕ, suc, ◌≤◌, leb, List, [], ◌++◌, length, map, Option, Some, None, Result, Ok, Err, refl, sym, ap, subst, ◌∙◌, arith}
use Rattle.std.specs.Prelude.{IfOk, IfErr}
use Rattle.std.specs.List.{AllByRecursion}
use Rattle.std.specs.List.Sorted.{IsStrictlySortedBy}
use Rattle.std.proofs.lemmas.Bool.{leb-true, le-leb}
use Rattle.model.specs.Limits.{hash_size}
use Rattle.model.specs.Cbor.{Item, Bytes, text_of, array_of, HasText}
use Rattle.model.specs.Transaction.{Input, Output, Address, KeyWitness, address_bytes, item_of_input, item_of_output, item_of_witness, IsInput, IsOutput, IsAddress, IsKeyWitness, input_cmp, witness_cmp}
use Rattle.cbor.specs.Gives.{Gives, Refuses, IfMalformed}
use Rattle.cbor.specs.Texts.{BeginsWithText}
use Rattle.cbor.specs.Shapes.{Reading}
use Rattle.cbor.specs.declared.fault.CborFault.{CborFault}
use Rattle.cbor.specs.declared.fault.CborFault.TheVariants as faults
use Rattle.cbor.proofs.ForCallers.{IsBytes, Fits, bind_some, some_is, TakesItem, ReadsItem, fixed_reads, bounded_reads, such_reads, as_reads, made_reads, deeper_reads, nonempty_reads, last_reads, both_reads, array_reads, list_array_reads, reads_found}
use Rattle.tx.specs.Rising.{rises_by}
use Rattle.tx.specs.Reading.{input_with, input_at, inputs_at, address_of_bytes, address_at, output_with, output_at, outputs_at, witness_with, witness_at, signatures_at}
use Rattle.tx.proofs.Rising.{sorted_if, rises_if, inputs_total, keys_total}
use Rattle.tx.proofs.AddressTexts.{address_read, address_again, address_length}
use Rattle.value.proofs.ForCallers.{value_reads}

-- ---- inputs

pub input_reads : ReadsItem item_of_input IsInput 2 input_at
unfolding input_at
input_reads =
    as_reads input_with item_of_input IsInput (λ x p. (refl, record { transaction = p.0; index = omega (arith, p.1) })) (λ i p. ((i.transaction, i.index), (p.transaction, omega (arith, p.index)), refl))
    (array_reads 2 (omega arith) (λ x. refl) (both_reads (fixed_reads 0 hash_size (omega arith)) (last_reads (bounded_reads 0 65536))))

-- inputs that rise strictly
abbrev pub AreInputs : List Input → Type 0
AreInputs xs = AllByRecursion IsInput xs × IsStrictlySortedBy input_cmp xs

pub inputs_reads : ReadsItem (λ xs. array_of (map item_of_input xs)) AreInputs 3 inputs_at
unfolding inputs_at
inputs_reads = such_reads (rises_by input_cmp) AreInputs (λ xs p t. (p, sorted_if inputs_total xs t)) (λ xs p. (p.0, rises_if input_cmp xs p.1)) (list_array_reads input_reads)

-- ---- outputs

abbrev pub item_of_address : Address → Item
item_of_address a = Bytes (address_bytes a)

pub address_reads : (depth : ℕ) → ReadsItem item_of_address IsAddress (suc depth) address_at
unfolding address_at
address_reads depth =
    made_reads address_of_bytes item_of_address IsAddress (λ bytes a len e. let r = address_read bytes a len e in (ap Bytes r.0, r.1)) (λ a is. (address_bytes a, address_length a is, refl, address_again a is)) (fixed_reads depth 33 (omega arith))

pub output_reads : ReadsItem item_of_output IsOutput 5 output_at
unfolding output_at
output_reads =
    as_reads output_with item_of_output IsOutput (λ x p. (refl, record { address = p.0; value = p.1 })) (λ o p. ((o.address, o.value), (p.address, p.value), refl))
    (array_reads 2 (omega arith) (λ x. refl) (both_reads (address_reads 3) (last_reads value_reads)))

-- outputs, not too many
abbrev pub AreOutputs : List Output → Type 0
AreOutputs xs = AllByRecursion IsOutput xs × (length xs ≤ 65536)

pub outputs_reads : ReadsItem (λ xs. array_of (map item_of_output xs)) AreOutputs 6 outputs_at
unfolding outputs_at
outputs_reads = such_reads (λ xs. leb (length xs) 65536) AreOutputs (λ xs p t. (p, leb-true _ _ t)) (λ xs p. (p.0, le-leb _ _ p.1)) (list_array_reads output_reads)

-- ---- signatures

pub witness_reads : ReadsItem item_of_witness IsKeyWitness 2 witness_at
unfolding witness_at
witness_reads =
    as_reads witness_with item_of_witness IsKeyWitness (λ x p. (refl, record { key = p.0; signature = p.1 })) (λ w p. ((w.key, w.signature), (p.key, p.signature), refl))
    (array_reads 2 (omega arith) (λ x. refl) (both_reads (fixed_reads 0 hash_size (omega arith)) (last_reads (fixed_reads 0 64 (omega arith)))))

-- signatures whose keys rise strictly, one at least
abbrev pub AreSignatures : List KeyWitness → Type 0
AreSignatures xs = (AllByRecursion IsKeyWitness xs × (xs ≢ [])) × IsStrictlySortedBy witness_cmp xs

pub signatures_reads : ReadsItem (λ xs. array_of (map item_of_witness xs)) AreSignatures 3 signatures_at
unfolding signatures_at
signatures_reads = such_reads (rises_by witness_cmp) AreSignatures (λ xs p t. (p, sorted_if keys_total xs t)) (λ xs p. (p.0, rises_if witness_cmp xs p.1)) (nonempty_reads (list_array_reads witness_reads))
