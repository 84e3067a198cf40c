-- The blocks that a core is opened on.
use Rattle.std.specs.Prelude.{◌≡◌, ℕ, ◌+◌, List, [], ◌∷◌, ◌++◌, length, map}
use Rattle.std.specs.Global.{Vec}
use Rattle.model.specs.Signature.{Verifies}
use Rattle.model.specs.Block.{Block}
use Rattle.model.specs.Ledger.{Network, network_on}
use Rattle.model.specs.Chain.{IsValidChain, immutable_part}
use Rattle.model.specs.Applying.{LedgerState, BlockFault, HasFault}
use Rattle.model.specs.History.{State, Entry, IsLegal}
use Rattle.block.specs.Read.{IsRead}
use Rattle.chain_core.specs.Immutable.{texts_of}
use Rattle.chain_core.specs.declared.reopening.ReopenFault.{ReopenFault}
use Rattle.chain_core.specs.declared.reopening.ReopenFault.TheVariants.{InvalidBlock, OutOfMemory}

-- the bytes of blocks
abbrev pub texts_in : List (Vec ℕ) → List (List ℕ)
texts_in blocks = map (λ v. v.items) blocks

-- each bytes are read as the block in their place
abbrev pub AreRead : List Block → List (List ℕ) → Type 0
AreRead [] [] = Unit {0}
AreRead (b ∷ bs) (bytes ∷ more) = IsRead b bytes × AreRead bs more
AreRead bs more = ⊥

-- the bytes are those of the blocks of this valid chain
pub record IsChainOf (network : Network) (texts : List (List ℕ)) (chain : List Block) : Type 0 where
  pub read : AreRead chain texts
  pub valid : IsValidChain network chain

-- A node had these as the texts of the first of its blocks that no rollback reaches: after some legal history, before
-- which it was opened on blocks that were read, or on none.
pub record WereImmutable (network : Network) (texts : List (List ℕ)) : Type 0 where
  pub opened : List Block
  pub read : IsChainOf network (texts_of opened) opened
  pub history : List Entry
  pub state : State
  pub legal : IsLegal (network_on network.genesis network.verifies opened) history state
  pub later : List (List ℕ)
  pub are : texts_of (immutable_part (network_on network.genesis network.verifies opened) state.chain) ≡ texts ++ later

-- Those before the one of this number, counted from 1, are the bytes of a valid chain, and its bytes are read as no
-- block that may come next on it.
pub record IsFirstInvalid (network : Network) (texts : List (List ℕ)) (number : ℕ) : Type 0 where
  pub before : List (List ℕ)
  pub bytes : List ℕ
  pub after : List (List ℕ)
  pub all : texts ≡ before ++ bytes ∷ after
  pub counted : length before + 1 ≡ number
  pub chain : List Block
  pub is_chain : IsChainOf network before chain
  pub invalid : (b : Block) → IsRead b bytes → IsValidChain network (chain ++ b ∷ []) → ⊥

-- why no core is opened on blocks
abbrev pub IsReopenFault : Network → List (List ℕ) → ReopenFault → Type 0
IsReopenFault network texts (InvalidBlock number) = IsFirstInvalid network texts number
IsReopenFault network texts OutOfMemory = Unit {0}

-- why the bytes of this number aren't put on a state: whatever block they are read as has a fault there
abbrev pub IsNotNext : Verifies → LedgerState → ℕ → List ℕ → ReopenFault → Type 0
IsNotNext verifies s number bytes (InvalidBlock n) =
    (n ≡ number) × ((b : Block) → IsRead b bytes → (fault : BlockFault) × HasFault verifies s b fault)
IsNotNext verifies s number bytes OutOfMemory = Unit {0}
