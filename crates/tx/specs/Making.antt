-- What parts of the code stand for, and what is known of them on the way to a transaction.
use Rattle.std.specs.Prelude.{◌≡◌, ◌^◌, ◌<◌, ◌≤◌, List, length, map, IfSome}
use Rattle.std.specs.Cmp.Lexicographic.{slice_cmp}
use Rattle.std.specs.List.{AllByRecursion}
use Rattle.std.specs.List.Sorted.{IsPermutation, IsSortedBy, IsStrictlySortedBy}
use Rattle.std.specs.Ordering.{is_lt, nat_cmp}
use Rattle.model.specs.Limits.{script_nesting_limit, output_limit}
use Rattle.model.specs.Cbor.{nesting, items_of, items_nesting, HasText}
use Rattle.model.specs.Script.{Script, item_of_script, script_hash_of}
use Rattle.model.specs.Transaction.{KeyWitness, Transaction, input_cmp, item_of_output, item_of_transaction}
use Rattle.model.specs.Transaction.{IsTransaction}
use Rattle.model.specs.Value.{IsMint, item_of_assets, item_of_number}
use Rattle.timelock.specs.View.{interval_of}
use Rattle.tx.specs.Body.{Body, transaction_with}
use Rattle.tx.specs.Parts.{Parts, keys_of, hashes_of}
use Rattle.tx.specs.Said.{IsSaidOutput, IsSaidScript}
use Rattle.tx.specs.View.{input_of, output_of, witness_of}
use Rattle.tx.specs.declared.parts.TxParts.{TxParts}

abbrev pub parts_of : TxParts → Parts
parts_of p =
    record {
      inputs = map input_of p.inputs.items;
      outputs = map output_of p.outputs.items;
      fee = p.fee;
      interval = interval_of p.interval;
      mint = p.mint;
      signatures = map witness_of p.signatures.items;
      scripts = p.scripts.items;
    }

-- the same parts, except for the order of inputs, signatures and scripts
pub record AreSamePartsAs (p q : Parts) : Type 0 where
  pub inputs : IsPermutation p.inputs q.inputs
  pub outputs : q.outputs ≡ p.outputs
  pub fee : q.fee ≡ p.fee
  pub interval : q.interval ≡ p.interval
  pub mint : q.mint ≡ p.mint
  pub signatures : IsPermutation p.signatures q.signatures
  pub scripts : IsPermutation p.scripts q.scripts

-- inputs, signatures and scripts stand in the order of a text, though one may stand there twice
pub record AreInOrder (p : TxParts) : Type 0 where
  pub inputs : IsSortedBy (λ a b. is_lt (input_cmp (input_of a) (input_of b))) p.inputs.items
  pub signatures : IsSortedBy (λ a b. is_lt (slice_cmp nat_cmp a.key b.key)) p.signatures.items
  pub scripts : IsSortedBy (λ a b. is_lt (slice_cmp nat_cmp (script_hash_of a) (script_hash_of b))) p.scripts.items

-- the parts that have items inside them have texts, which are not too deep
pub record AreSaid (p : Parts) : Type 0 where
  pub outputs : AllByRecursion IsSaidOutput p.outputs
  pub outputs_nest : items_nesting (items_of (map item_of_output p.outputs)) ≤ 5
  pub scripts : AllByRecursion IsSaidScript p.scripts
  pub scripts_nest : items_nesting (items_of (map item_of_script p.scripts)) ≤ script_nesting_limit
  pub mint : IsMint p.mint
  pub mint_text : HasText (item_of_assets item_of_number p.mint)
  pub mint_nests : nesting (item_of_assets item_of_number p.mint) ≤ 3

-- parts without a fault
pub record AreSound (p : Parts) : Type 0 where
  pub inputs_rise : IsStrictlySortedBy input_cmp p.inputs
  pub outputs_count : length p.outputs ≤ output_limit
  pub keys_rise : IsStrictlySortedBy (slice_cmp nat_cmp) (keys_of p)
  pub hashes_rise : IsStrictlySortedBy (slice_cmp nat_cmp) (hashes_of p)
  pub said : AreSaid p

-- each number has at most 64 bits
pub record HasNumbers (p : Parts) : Type 0 where
  pub fee : p.fee < 2 ^ 64
  pub start : IfSome p.interval.start (λ slot. slot < 2 ^ 64)
  pub end : IfSome p.interval.end (λ slot. slot < 2 ^ 64)

-- ---- the transaction

-- of a body with signatures and scripts
abbrev pub transaction_of_halves : Body → List KeyWitness × List Script → Transaction
transaction_of_halves body witnesses = transaction_with body witnesses.0 witnesses.1

-- of parts in order
abbrev pub transaction_of_parts : Parts → Transaction
transaction_of_parts p =
    record {
      inputs = p.inputs;
      outputs = p.outputs;
      fee = p.fee;
      end = p.interval.end;
      start = p.interval.start;
      mint = p.mint;
      signatures = p.signatures;
      scripts = p.scripts;
    }

-- the transaction has a text
pub record HasTextWith (body : Body) (witnesses : List KeyWitness × List Script) : Type 0 where
  pub is_transaction : IsTransaction (transaction_of_halves body witnesses)
  pub has_text : HasText (item_of_transaction (transaction_of_halves body witnesses))
