-- The blocks of a log one after the other.
use Rattle.std.specs.Prelude.{◌≡◌, ℕ, Bool, true, List, [], ◌∷◌, length, drop, Option, Result, IfOk, IfErr}
use Rattle.std.specs.Prelude.{MatchOption, Vec}
use Rattle.sha2.specs.Sha256.{sha256}
use Rattle.std.specs.declared.alloc.Global.{Global}
use Rattle.immlog.specs.declared.faults.ReadFault.{ReadFault}
use Rattle.immlog.specs.declared.faults.ReadFault.TheVariants.{Damaged}
use Rattle.immlog.specs.declared.log_blocks.LogBlocks.{LogBlocks}

-- those that are still to come
abbrev pub blocks_left : {D : Type 0} → LogBlocks D → List (List ℕ)
blocks_left b = drop b.passed b.log.blocks

-- The bytes have the length and the SHA-256 of the block, and are it on a disk that keeps what it holds.
pub record IsReadAgain (keeps : Bool) (block bytes : List ℕ) : Type 0 where
  pub long : length bytes ≡ length block
  pub same : sha256 bytes ≡ sha256 block
  pub exact : keeps ≡ true → bytes ≡ block

-- what a call says of the block of this number: its bytes, or a fault, which on such a disk isn't that it is damaged
pub record TellsBlock (keeps : Bool) (number : ℕ) (block : List ℕ) (read : Result (Vec ℕ Global) ReadFault) : Type 0 where
  pub bytes : IfOk read (λ bytes. IsReadAgain keeps block bytes.items)
  pub damaged : IfErr read (λ fault. (told : ℕ) → fault ≡ Damaged told → (told ≡ number) × (keeps ≡ true → ⊥))

-- The first block that was left is told, or none was left; the log has the same blocks.
abbrev pub GivesBlock : {D : Type 0} → (keeps : Bool) → LogBlocks D → Option (Result (Vec ℕ Global) ReadFault)
    → LogBlocks D → Type 0
GivesBlock keeps old item new =
    MatchOption item ((blocks_left old ≡ []) × (new ≡ old))
    (λ read. (new.log.blocks ≡ old.log.blocks) × (block : List ℕ) × (blocks_left old ≡ block ∷ blocks_left new)
    × TellsBlock keeps new.passed block read)
