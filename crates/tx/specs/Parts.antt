-- Transactions by their parts, in whatever order inputs, signatures and scripts are told: each of the three is a set,
-- which a text has in one order (Shelley-MA, transactions). Which fault is told first is this project's own.
use Rattle.std.specs.Prelude.{◌≡◌, ℕ, ◌<◌, List, length, map, bytes_eq}
use Rattle.std.specs.Cmp.Lexicographic.{slice_cmp}
use Rattle.std.specs.List.{Any}
use Rattle.std.specs.List.Sorted.{IsPermutation}
use Rattle.std.specs.Ordering.{nat_cmp}
use Rattle.model.specs.Limits.{script_nesting_limit, output_limit}
use Rattle.model.specs.Cbor.{nesting}
use Rattle.model.specs.Script.{Script, Interval, item_of_script, script_hash_of}
use Rattle.model.specs.Transaction.{Input, Output, KeyWitness, Transaction, interval_of_transaction, input_cmp}
use Rattle.model.specs.Value.{Mint}
use Rattle.tx.specs.Repeats.{IsRepeated, IsFirstRepeated, same_input}
use Rattle.tx.specs.View.{input_of}
use Rattle.tx.specs.declared.parts_fault.PartsFault.{PartsFault}
use Rattle.tx.specs.declared.parts_fault.PartsFault.TheVariants as faults

pub record Parts : Type 0 where
  pub inputs : List Input
  pub outputs : List Output
  pub fee : ℕ
  pub interval : Interval
  pub mint : Mint
  pub signatures : List KeyWitness
  pub scripts : List Script

-- the transaction has just these parts
pub record IsTxOf (tx : Transaction) (p : Parts) : Type 0 where
  pub inputs : IsPermutation p.inputs tx.inputs
  pub outputs : tx.outputs ≡ p.outputs
  pub fee : tx.fee ≡ p.fee
  pub interval : interval_of_transaction tx ≡ p.interval
  pub mint : tx.mint ≡ p.mint
  pub signatures : IsPermutation p.signatures tx.signatures
  pub scripts : IsPermutation p.scripts tx.scripts

-- ---- what may be wrong with parts

-- the keys that signed
abbrev pub keys_of : Parts → List (List ℕ)
keys_of p = map (λ signature. signature.key) p.signatures

-- the hashes of the scripts
abbrev pub hashes_of : Parts → List (List ℕ)
hashes_of p = map script_hash_of p.scripts

-- an input stands there more than once
abbrev pub HasRepeatedInput : Parts → Type 0
HasRepeatedInput p = (input : Input) × IsRepeated same_input p.inputs input

-- there are more outputs than an index can name
abbrev pub HasManyOutputs : Parts → Type 0
HasManyOutputs p = output_limit < length p.outputs

-- a key signed more than once
abbrev pub HasRepeatedKey : Parts → Type 0
HasRepeatedKey p = (key : List ℕ) × IsRepeated bytes_eq (keys_of p) key

-- a script stands there more than once
abbrev pub HasRepeatedScript : Parts → Type 0
HasRepeatedScript p = (hash : List ℕ) × IsRepeated bytes_eq (hashes_of p) hash

-- the text of a script nests too deep to stand in a transaction's
abbrev pub HasDeepScript : Parts → Type 0
HasDeepScript p = Any (λ script. script_nesting_limit < nesting (item_of_script script)) p.scripts

-- inputs and outputs are not at fault
pub record AreEndsSound (p : Parts) : Type 0 where
  pub inputs : ¬ HasRepeatedInput p
  pub outputs : ¬ HasManyOutputs p

-- the first fault of the parts, in the order in which they are told apart below; of what stands there more than once
-- the least is told. OutOfMemory is told only where they have no fault.
abbrev pub IsPartsFault : Parts → PartsFault → Type 0
IsPartsFault p (faults.RepeatedInput input) = IsFirstRepeated same_input input_cmp p.inputs (input_of input)
IsPartsFault p (faults.TooManyOutputs count) = ¬ HasRepeatedInput p × HasManyOutputs p × (count ≡ length p.outputs)
IsPartsFault p (faults.RepeatedKey key) =
    AreEndsSound p × IsFirstRepeated bytes_eq (slice_cmp nat_cmp) (keys_of p) key
IsPartsFault p (faults.RepeatedScript hash) =
    AreEndsSound p × ¬ HasRepeatedKey p × IsFirstRepeated bytes_eq (slice_cmp nat_cmp) (hashes_of p) hash.bytes
IsPartsFault p faults.TooDeep = AreEndsSound p × ¬ HasRepeatedKey p × ¬ HasRepeatedScript p × HasDeepScript p
IsPartsFault p faults.OutOfMemory = AreEndsSound p × ¬ HasRepeatedKey p × ¬ HasRepeatedScript p × ¬ HasDeepScript p

-- a fact that holds where the parts are at fault
abbrev pub IfAtFault : PartsFault → Type 0 → Type 0
IfAtFault (faults.RepeatedInput input) P = P
IfAtFault (faults.TooManyOutputs count) P = P
IfAtFault (faults.RepeatedKey key) P = P
IfAtFault (faults.RepeatedScript hash) P = P
IfAtFault faults.TooDeep P = P
IfAtFault faults.OutOfMemory P = Unit {0}
