-- Blocks: a header and whole transactions under one hash (this project's own shape).
use Rattle.std.specs.Prelude.{◌≡◌, ℕ, ◌<◌, List, [], ◌∷◌, length, map, sum_by, Option, Some, None, IfSome}
use Rattle.std.specs.List.{AllByRecursion}
use Rattle.sha2.specs.Sha256.{sha256}
use Rattle.model.specs.Limits.{hash_size, number_limit}
use Rattle.model.specs.Cbor.{Item, Unsigned, Bytes, Null, array_of, text_of, Spells}
use Rattle.model.specs.Transaction.{Transaction, item_of_transaction, IsTransaction}

-- the first block has number 1 and names no block before it
pub record Header : Type 0 where
  pub number : ℕ
  pub slot : ℕ
  pub previous : Option (List ℕ)
  pub body_hash : List ℕ

pub record Block : Type 0 where
  pub header : Header
  pub transactions : List Transaction

-- the block of this header that holds no transaction
abbrev pub empty_block : Header → Block
empty_block header = record { header = header; transactions = [] }

abbrev pub item_of_previous : Option (List ℕ) → Item
item_of_previous None = Null
item_of_previous (Some hash) = Bytes hash

abbrev pub item_of_header : Header → Item
item_of_header header =
    array_of (Unsigned header.number ∷ Unsigned header.slot ∷ item_of_previous header.previous
    ∷ Bytes header.body_hash ∷ [])

-- the array of the transactions
abbrev pub item_of_transactions : List Transaction → Item
item_of_transactions transactions = array_of (map item_of_transaction transactions)

abbrev pub item_of_block : Block → Item
item_of_block block = array_of (item_of_header block.header ∷ item_of_transactions block.transactions ∷ [])

-- numbers and slots are below 2 ^ 63, and hashes have 32 bytes
pub record IsHeader (header : Header) : Type 0 where
  pub number : header.number < number_limit
  pub slot : header.slot < number_limit
  pub previous : IfSome header.previous (λ hash. length hash ≡ hash_size)
  pub body_hash : length header.body_hash ≡ hash_size

pub record IsBlock (block : Block) : Type 0 where
  pub header : IsHeader block.header
  pub transactions : AllByRecursion IsTransaction block.transactions

-- the bytes are the one text of the block
pub record SpellsBlock (block : Block) (bytes : List ℕ) : Type 0 where
  pub shape : IsBlock block
  pub text : Spells (item_of_block block) bytes

-- the text of a block
unfoldable pub block_text : Block → List ℕ
block_text block = text_of (item_of_block block)

-- how many bytes the texts of blocks have together
abbrev pub bytes_in : List Block → ℕ
bytes_in blocks = sum_by (λ b. length (block_text b)) blocks

-- the hash of a body: SHA-256 (FIPS 180-4) of the text of the array of transactions
unfoldable pub body_hash_of : List Transaction → List ℕ
body_hash_of transactions = sha256 (text_of (item_of_transactions transactions))

-- the size of a body, in bytes
unfoldable pub body_size_of : Block → ℕ
body_size_of block = length (text_of (item_of_transactions block.transactions))

-- the hash of a block: SHA-256 of its header's text
unfoldable pub block_hash_of : Block → List ℕ
block_hash_of block = sha256 (text_of (item_of_header block.header))
