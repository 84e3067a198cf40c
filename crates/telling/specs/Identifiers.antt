-- The identifier of a text, and how it is printed.
use Rattle.std.specs.Prelude.{◌≡◌, ℕ, List, [], ◌∷◌, ◌++◌, Option}
use Rattle.std.specs.Io.KnownBytes.{Appends}
use Rattle.hex.specs.Hex.{encode_lower}
use Rattle.model.specs.Block as model
use Rattle.model.specs.Block.{block_hash_of}
use Rattle.model.specs.Script as script
use Rattle.model.specs.Script.{SpellsScript, script_hash_of}
use Rattle.model.specs.Transaction.{transaction_id_of}
use Rattle.model.specs.Mempool.{IsTransactionWith}
use Rattle.block.specs.Read.{IsRead}
use Rattle.telling.specs.declared.kind.Kind.{Kind}
use Rattle.telling.specs.declared.kind.Kind.TheVariants.{Transaction, Block, Script, Value}

-- IDENTIFIER OF A TEXT
-- The bytes are the text of a transaction that has it; or they are read as a block of this hash; or they are the text
-- of a native script of this hash. A value has none.
abbrev pub IsIdOf : Kind → (bytes id : List ℕ) → Type 0
IsIdOf Transaction bytes id = IsTransactionWith bytes (λ t. transaction_id_of t ≡ id)
IsIdOf Block bytes id = (b : model.Block) × IsRead b bytes × (block_hash_of b ≡ id)
IsIdOf Script bytes id = (s : script.Script) × SpellsScript s bytes × (script_hash_of s ≡ id)
IsIdOf Value bytes id = ⊥

-- its hexadecimal digits, alone on a line
abbrev pub id_text : List ℕ → List ℕ
id_text id = encode_lower id ++ 10 ∷ []

-- the line tells the identifier of the bytes
pub record IsIdLine (kind : Kind) (bytes line : List ℕ) : Type 0 where
  pub id : List ℕ
  pub is_id : IsIdOf kind bytes id
  pub text : line ≡ id_text id

-- just that line is printed
pub record PrintsId (kind : Kind) (bytes : List ℕ) (old new : Option (List ℕ)) : Type 0 where
  pub id : List ℕ
  pub is_id : IsIdOf kind bytes id
  pub printed : Appends old new (id_text id)
