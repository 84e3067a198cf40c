-- Why a header or a block of transactions has no text.
use Rattle.std.specs.Prelude.{◌≡◌, ℕ, ◌<◌, ◌≤◌, List, ◌++◌, take, Option, Some, slice_get}
use Rattle.std.specs.List.{AllByRecursion}
use Rattle.sha2.specs.Sha256.{sha256}
use Rattle.model.specs.Limits.{transaction_nesting_limit}
use Rattle.model.specs.Cbor.{head, nesting, text_of}
use Rattle.model.specs.Transaction.{Transaction, item_of_transaction, SpellsTransaction}
use Rattle.model.specs.Block.{Header, Block, IsHeader, SpellsBlock, body_hash_of, item_of_header}
use Rattle.model.specs.Block.{item_of_transactions}
use Rattle.block.specs.declared.fault.WriteFault.{WriteFault}
use Rattle.block.specs.declared.fault.WriteFault.TheVariants.{OutOfRange, OutOfMemory}
use Rattle.block.specs.declared.fault.NoText.{NoText}
use Rattle.block.specs.declared.fault.NoText.TheVariants as no

-- when each fault comes: out of range, or out of memory for a header that has a text
abbrev pub IsWriteFault : Header → WriteFault → Type 0
IsWriteFault header OutOfRange = IsHeader header → ⊥
IsWriteFault header OutOfMemory = IsHeader header

-- the block of these transactions at this place, whose header names the hash of its body
abbrev pub full_block : ℕ → ℕ → Option (List ℕ) → List Transaction → Block
full_block number slot previous transactions =
    record {
      header = record { number = number; slot = slot; previous = previous; body_hash = body_hash_of transactions };
      transactions = transactions;
    }

-- A transaction of a block: it has a text, and stands two deep in a block, which nests at most 64 deep.
pub record FitsBlock (t : Transaction) : Type 0 where
  pub spelled : SpellsTransaction t (text_of (item_of_transaction t))
  pub nests : nesting (item_of_transaction t) ≤ transaction_nesting_limit

-- the bytes are the text of a body of these transactions, which all fit
pub record IsBodyText (txs : List Transaction) (text : List ℕ) : Type 0 where
  pub spelled : text ≡ text_of (item_of_transactions txs)
  pub fit : AllByRecursion FitsBlock txs

-- the header at this place that names the digest of these bytes
abbrev pub header_over : ℕ → ℕ → Option (List ℕ) → List ℕ → Header
header_over number slot previous body =
    record { number = number; slot = slot; previous = previous; body_hash = sha256 body }

-- the header's text in an array of two, and these bytes after it, whatever they are
abbrev pub text_over : Header → List ℕ → List ℕ
text_over header body = head 4 2 ++ (text_of (item_of_header header) ++ body)

-- the first transaction that does not fit stands there, and nests too deep
pub record IsFirstTooDeep (index : ℕ) (transactions : List Transaction) : Type 0 where
  pub transaction : Transaction
  pub place : slice_get transactions index ≡ Some transaction
  pub deep : transaction_nesting_limit < nesting (item_of_transaction transaction)
  pub before : AllByRecursion FitsBlock (take index transactions)

-- its numbers are in range, and this transaction is too deep
pub record IsTooDeep (index : ℕ) (block : Block) : Type 0 where
  pub header : IsHeader block.header
  pub first : IsFirstTooDeep index block.transactions

-- its numbers are in range, and all of its transactions fit
pub record IsWritable (block : Block) : Type 0 where
  pub header : IsHeader block.header
  pub transactions : AllByRecursion FitsBlock block.transactions

-- when each fault of a block of transactions comes: the first reason that applies, or OutOfMemory where none does
abbrev pub IsNoText : Block → NoText → Type 0
IsNoText block no.OutOfRange = IsHeader block.header → ⊥
IsNoText block (no.TooDeep index) = IsTooDeep index block
IsNoText block no.OutOfMemory = IsWritable block

-- no bytes are its text, except where the fault is OutOfMemory
abbrev pub IsUnspelled : Block → NoText → Type 0
IsUnspelled block no.OutOfRange = (bytes : List ℕ) → SpellsBlock block bytes → ⊥
IsUnspelled block (no.TooDeep index) = (bytes : List ℕ) → SpellsBlock block bytes → ⊥
IsUnspelled block no.OutOfMemory = Unit {0}
