-- What it means that facts are those of a block's bytes.
use Rattle.std.specs.Prelude.{◌≡◌, ℕ, List, [], option_map, unwrap_or}
use Rattle.model.specs.Transaction.{Transaction}
use Rattle.model.specs.Block.{Block, block_hash_of, body_size_of}
use Rattle.block.specs.declared.facts.Facts.{Facts}
use Rattle.block.specs.View.{header_of}
use Rattle.block.specs.Read.{IsRead}
use Rattle.block.specs.Reading.{block_at}

-- the block of these transactions, with the header that is among the facts
abbrev pub block_of : Facts → List Transaction → Block
block_of facts transactions = record { header = header_of facts.header; transactions = transactions }

-- the bytes are read as the block, and what else is known is computed from it
pub record AreFactsOf (facts : Facts) (transactions : List Transaction) (bytes : List ℕ) : Type 0 where
  pub read : IsRead (block_of facts transactions) bytes
  pub hash : facts.hash.bytes ≡ block_hash_of (block_of facts transactions)
  pub body_size : facts.body_size ≡ body_size_of (block_of facts transactions)

-- ---- where the bytes alone are kept

-- the transactions of the block that the bytes spell, and none where they spell no block
abbrev pub transactions_in : List ℕ → List Transaction
transactions_in bytes = unwrap_or (option_map (λ b. b.transactions) (block_at bytes)) []

-- the block that the bytes spell, with the header that is among the facts
abbrev pub block_in : Facts → List ℕ → Block
block_in facts bytes = block_of facts (transactions_in bytes)

-- the facts are those of the block that the bytes spell
abbrev pub AreFactsIn : Facts → List ℕ → Type 0
AreFactsIn facts bytes = AreFactsOf facts (transactions_in bytes) bytes
