-- Transactions, blocks and geneses are plain as they are described, since their texts nest at most 64 deep.
use Rattle.std.proofs.Common.{ℕ, suc, ◌≤◌, pos, List, [], ◌∷◌, ◌++◌, map, Option, Some, None, arith}
use Rattle.std.specs.Prelude.{option_map}
use Rattle.std.specs.List.{AllByRecursion}
use Rattle.model.specs.Cbor.{Item, items_of, array_of, map_of, nesting, items_nesting}
use Rattle.model.specs.Signature.{Verifies}
use Rattle.model.specs.Script.{Script, item_of_script}
use Rattle.model.specs.Transaction.{Credential, KeyHash, ScriptHash, Address, Input, Output, KeyWitness, Transaction, item_of_witness, unless_empty, item_of_transaction, size_of, transaction_id_of}
use Rattle.model.specs.Rules.{scripts_hold}
use Rattle.model.specs.Block.{Block, item_of_block, block_hash_of}
use Rattle.model.specs.Genesis.{Grant, Genesis, supply_of}
use Rattle.genesis.specs.Meaning.{scheme_name}
use Rattle.genesis.specs.declared.scheme.Scheme.{Scheme}
use Rattle.describing.specs.Parts.{json_list, json_of_given_bytes}
use Rattle.describing.specs.Scripts.{json_of_script}
use Rattle.describing.specs.Transactions.{json_of_input, json_of_credential, json_of_address, json_of_output, json_of_signature, json_of_transaction}
use Rattle.describing.specs.Blocks.{json_of_block}
use Rattle.describing.specs.Records.{number_of, slot_of, json_of_record}
use Rattle.describing.specs.Geneses.{era_slot, era_price, json_of_grant, json_of_genesis}
use Rattle.describing.proofs.Plain.{IsPlain, deeper, number_plain, given_plain, text_plain, verdict_plain, array_plain, none_plain, also_plain, flat_plain, object_plain, mapped_plain, list_plain}
use Rattle.describing.proofs.PlainParts.{bytes_plain, assets_plain, script_plain}

-- ---- what is spent and left

input_plain : (i : Input) → IsPlain 1 (json_of_input i)
input_plain i = object_plain 0 _ (flat_plain 0 _ _ _ (number_plain i.index) (flat_plain 0 _ _ _ (bytes_plain i.transaction) (none_plain 0)))

credential_plain : (network : ℕ) (c : Credential) → IsPlain 1 (json_of_credential network c)
credential_plain network (KeyHash hash) = object_plain 0 _ (flat_plain 0 _ _ _ (bytes_plain hash) (flat_plain 0 _ _ _ (text_plain _) (flat_plain 0 _ _ _ (number_plain network) (none_plain 0))))
credential_plain network (ScriptHash hash) = object_plain 0 _ (flat_plain 0 _ _ _ (bytes_plain hash) (flat_plain 0 _ _ _ (text_plain _) (flat_plain 0 _ _ _ (number_plain network) (none_plain 0))))

address_plain : (a : Address) → IsPlain 1 (json_of_address a)
address_plain a = credential_plain a.network a.payment

output_plain : (o : Output) → IsPlain 3 (json_of_output o)
output_plain o = object_plain 2 _ (also_plain 2 _ _ _ (deeper 1 2 _ (omega arith) (address_plain o.address)) (also_plain 2 _ _ _ (assets_plain pos o.value.assets) (flat_plain 2 _ _ _ (number_plain o.value.coin) (none_plain 2))))

-- ---- transactions

signature_plain : (verifies : Verifies) (message : List ℕ) (w : KeyWitness) → IsPlain 1 (json_of_signature verifies message w)
signature_plain verifies message w = object_plain 0 _ (flat_plain 0 _ _ _ (verdict_plain (verifies w.key message w.signature)) (flat_plain 0 _ _ _ (bytes_plain w.key) (none_plain 0)))

-- none nests deeper than all of them
each_within : {A : Type 0} (item_of : A → Item) (n : ℕ) (xs : List A) → items_nesting (items_of (map item_of xs)) ≤ n → AllByRecursion (λ x. nesting (item_of x) ≤ n) xs
each_within item_of n [] le = tt
each_within item_of n (x ∷ xs) le = (omega (arith, le), each_within item_of n xs (omega (arith, le)))

-- scripts nest two less than the witness set that they stand in
scripts_within : (n : ℕ) (ws : List KeyWitness) (ss : List Script) → nesting (map_of (unless_empty 0 (λ witnesses. array_of (map item_of_witness witnesses)) ws ++ unless_empty 1 (λ scripts. array_of (map item_of_script scripts)) ss)) ≤ suc (suc n) → items_nesting (items_of (map item_of_script ss)) ≤ n
scripts_within n ws [] le = omega arith
scripts_within n [] (s ∷ ss) le = omega (arith, le)
scripts_within n (w ∷ ws) (s ∷ ss) le = omega (arith, le)

some_scripts_plain : (n : ℕ) (ss : List Script) → AllByRecursion (λ s. nesting (item_of_script s) ≤ n) ss → AllByRecursion (λ s. IsPlain (suc n) (json_of_script s)) ss
some_scripts_plain n [] all = tt
some_scripts_plain n (s ∷ ss) all = (script_plain n s all.0, some_scripts_plain n ss all.1)

scripts_plain : (t : Transaction) → nesting (item_of_transaction t) ≤ 64 → IsPlain 63 (json_list json_of_script t.scripts)
scripts_plain t le =
    let nest : items_nesting (items_of (map item_of_script t.scripts)) ≤ 61 = scripts_within 61 t.signatures t.scripts (omega (arith, le)) in
    array_plain 62 _ (mapped_plain json_of_script 62 t.scripts (some_scripts_plain 61 t.scripts (each_within item_of_script 61 t.scripts nest)))

pub transaction_plain : (verifies : Verifies) (t : Transaction) → nesting (item_of_transaction t) ≤ 64 → IsPlain 64 (json_of_transaction verifies t)
transaction_plain verifies t le =
    let id = transaction_id_of t in
    let inputs = deeper 2 63 _ (omega arith) (list_plain json_of_input 1 input_plain t.inputs) in
    let mint = deeper 2 63 _ (omega arith) (assets_plain (λ quantity. quantity) t.mint) in
    let outputs = deeper 4 63 _ (omega arith) (list_plain json_of_output 3 output_plain t.outputs) in
    let signatures = deeper 2 63 _ (omega arith) (list_plain (json_of_signature verifies id) 1 (signature_plain verifies id) t.signatures) in
    object_plain 63 _ (flat_plain 63 _ _ _ (given_plain t.end)
    (flat_plain 63 _ _ _ (number_plain t.fee)
    (flat_plain 63 _ _ _ (bytes_plain id)
    (also_plain 63 _ _ _ inputs
    (also_plain 63 _ _ _ mint
    (also_plain 63 _ _ _ outputs
    (also_plain 63 _ _ _ (scripts_plain t le)
    (flat_plain 63 _ _ _ (verdict_plain (scripts_hold t))
    (also_plain 63 _ _ _ signatures
    (flat_plain 63 _ _ _ (number_plain (size_of t))
    (flat_plain 63 _ _ _ (given_plain t.start) (none_plain 63))))))))))))

-- ---- blocks

given_bytes_plain : (o : Option (List ℕ)) → IsPlain 0 (json_of_given_bytes o)
given_bytes_plain None = given_plain None
given_bytes_plain (Some hash) = bytes_plain hash

some_transactions_plain : (verifies : Verifies) (ts : List Transaction) → AllByRecursion (λ t. nesting (item_of_transaction t) ≤ 62) ts → AllByRecursion (λ t. IsPlain 64 (json_of_transaction verifies t)) ts
some_transactions_plain verifies [] all = tt
some_transactions_plain verifies (t ∷ ts) all = (transaction_plain verifies t (omega (arith, all.0)), some_transactions_plain verifies ts all.1)

transactions_plain : (verifies : Verifies) (b : Block) → nesting (item_of_block b) ≤ 64 → IsPlain 65 (json_list (json_of_transaction verifies) b.transactions)
transactions_plain verifies b le =
    let nest : items_nesting (items_of (map item_of_transaction b.transactions)) ≤ 62 = omega (arith, le) in
    array_plain 64 _ (mapped_plain (json_of_transaction verifies) 64 b.transactions (some_transactions_plain verifies b.transactions (each_within item_of_transaction 62 b.transactions nest)))

pub block_plain : (verifies : Verifies) (b : Block) → nesting (item_of_block b) ≤ 64 → IsPlain 66 (json_of_block verifies b)
block_plain verifies b le =
    object_plain 65 _ (flat_plain 65 _ _ _ (bytes_plain _)
    (flat_plain 65 _ _ _ (number_plain _)
    (flat_plain 65 _ _ _ (bytes_plain _)
    (flat_plain 65 _ _ _ (number_plain _)
    (flat_plain 65 _ _ _ (given_bytes_plain b.header.previous)
    (flat_plain 65 _ _ _ (number_plain _)
    (flat_plain 65 _ _ _ (number_plain _)
    (also_plain 65 _ _ _ (transactions_plain verifies b le) (none_plain 65)))))))))

-- ---- records of a log

pub record_plain : (number place size : ℕ) (found : Option Block) → IsPlain 1 (json_of_record number place size found)
record_plain number place size found =
    object_plain 0 _ (flat_plain 0 _ _ _ (given_bytes_plain (option_map block_hash_of found))
    (flat_plain 0 _ _ _ (given_plain (option_map number_of found))
    (flat_plain 0 _ _ _ (number_plain place)
    (flat_plain 0 _ _ _ (number_plain number)
    (flat_plain 0 _ _ _ (number_plain size)
    (flat_plain 0 _ _ _ (given_plain (option_map slot_of found)) (none_plain 0)))))))

-- ---- geneses

grant_plain : (g : Grant) → IsPlain 2 (json_of_grant g)
grant_plain g = object_plain 1 _ (also_plain 1 _ _ _ (address_plain g.address) (flat_plain 1 _ _ _ (number_plain g.coin) (none_plain 1)))

pub genesis_plain : (scheme : Scheme) (g : Genesis) → IsPlain 4 (json_of_genesis scheme g)
genesis_plain scheme g =
    let p = g.params in
    object_plain 3 _ (flat_plain 3 _ _ _ (given_plain (option_map era_slot p.second_era))
    (flat_plain 3 _ _ _ (number_plain g.k)
    (flat_plain 3 _ _ _ (number_plain p.max_body_size)
    (flat_plain 3 _ _ _ (number_plain g.max_mempool)
    (flat_plain 3 _ _ _ (number_plain p.max_tx_size)
    (flat_plain 3 _ _ _ (number_plain g.max_volatile)
    (flat_plain 3 _ _ _ (given_plain g.max_volatile_bytes)
    (flat_plain 3 _ _ _ (number_plain p.min_fee_a)
    (flat_plain 3 _ _ _ (number_plain p.min_fee_b)
    (flat_plain 3 _ _ _ (number_plain p.min_utxo)
    (flat_plain 3 _ _ _ (number_plain p.network)
    (also_plain 3 _ _ _ (list_plain json_of_grant 2 grant_plain g.grants)
    (flat_plain 3 _ _ _ (given_plain (option_map era_price p.second_era))
    (flat_plain 3 _ _ _ (text_plain (scheme_name scheme))
    (flat_plain 3 _ _ _ (number_plain (supply_of g)) (none_plain 3))))))))))))))))
