-- Blocks that are applied to a state, one after the other: the five faults of a block in their order, and what it makes
-- of the state where it has none (Shelley, CHAIN and BBODY; the Consensus and Storage Layer report, the extended ledger
-- state). The order of the faults is this project's own.
use Rattle.std.specs.Prelude.{◌≡◌, ◌≢◌, ℕ, ◌+◌, ◌<◌, ◌≤◌, List, [], ◌∷◌, Some}
use Rattle.std.specs.List.{AllByRecursion}
use Rattle.model.specs.First.{IsFirst}
use Rattle.model.specs.Signature.{Verifies}
use Rattle.model.specs.Rules.{Params, Reason}
use Rattle.model.specs.Genesis.{Genesis}
use Rattle.model.specs.Block.{Block, body_size_of}
use Rattle.model.specs.Chain.{Tip, genesis_tip, tip_at, tip_after, Follows, IsLinked}
use Rattle.model.specs.Ledger.{Network, Ledger, opening_ledger, ledger_after, first_refused, ledger_of}

-- what a block is applied to: what the network asks of it, the ledger, and where the chain ends
pub record LedgerState : Type 0 where
  pub params : Params
  pub ledger : Ledger
  pub tip : Tip

-- before the first block
abbrev pub opening_state : Genesis → LedgerState
opening_state genesis =
    record { params = genesis.params; ledger = opening_ledger genesis; tip = genesis_tip }

-- ---- faults

-- what may be said against a block, in the order in which it is looked for; each fault has its condition below
pub data BlockFault : Type 0 where
  WrongNumber : BlockFault
  WrongPrev : BlockFault
  SlotNotRising : BlockFault
  BodyTooBig : BlockFault
  TxFault : (index : ℕ) → Reason → BlockFault

abbrev pub fault_number : BlockFault → ℕ
fault_number WrongNumber = 1
fault_number WrongPrev = 2
fault_number SlotNotRising = 3
fault_number BodyTooBig = 4
fault_number (TxFault index reason) = 5

module _ (verifies : Verifies) where
  -- the condition of each fault
  abbrev pub HasFault : LedgerState → Block → BlockFault → Type 0
  -- its number isn't the next one
  HasFault s b WrongNumber = b.header.number ≢ s.tip.number + 1
  -- it doesn't name the block before it, or names one where there is none
  HasFault s b WrongPrev = b.header.previous ≢ s.tip.hash
  -- its slot isn't later than that of the block before
  HasFault s b SlotNotRising = b.header.slot ≤ s.tip.slot
  -- its body has too many bytes (Shelley, BBODY: maxBlockSize)
  HasFault s b BodyTooBig = s.params.max_body_size < body_size_of b
  -- this is the first of its transactions, counted from 0, against which there is a reason at the block's slot, on what
  -- those before it leave, and that is the reason
  HasFault s b (TxFault index reason) =
      first_refused verifies s.params b.header.slot s.ledger 0 b.transactions ≡ Some (index, reason)

  -- FIRST FAULT OF A BLOCK
  -- It has this one, and none that is looked for before it.
  abbrev pub IsFirstFault : LedgerState → Block → BlockFault → Type 0
  IsFirstFault s b fault = IsFirst fault_number (HasFault s b) fault

  -- BLOCK APPLIED
  -- It follows the tip, its body fits, there is no reason against any of its transactions, and the state after it has
  -- the ledger that these leave and ends in the block.
  pub record IsApplied (s : LedgerState) (b : Block) (after : LedgerState) : Type 0 where
    pub follows : Follows s.tip b
    pub size : body_size_of b ≤ s.params.max_body_size
    pub ledger : ledger_after verifies s.params b.header.slot s.ledger b.transactions ≡ Some after.ledger
    pub params : after.params ≡ s.params
    pub tip : after.tip ≡ tip_at b

  -- the states that blocks make of one, each after the block of its place
  abbrev pub AreStates : LedgerState → List Block → List LedgerState → Type 0
  AreStates s [] [] = Unit {0}
  AreStates s [] (t ∷ ts) = ⊥
  AreStates s (b ∷ bs) [] = ⊥
  AreStates s (b ∷ bs) (t ∷ ts) = IsApplied s b t × AreStates t bs ts

-- the last of the states after one, and that one itself where there are none
abbrev pub last_state : LedgerState → List LedgerState → LedgerState
last_state s [] = s
last_state s (t ∷ ts) = last_state t ts

-- ---- chains

-- A valid chain's state: each block follows the one before it, each body fits, and the ledger is the fold over all of
-- their transactions.
pub record IsStateOf (network : Network) (chain : List Block) (s : LedgerState) : Type 0 where
  pub linked : IsLinked genesis_tip chain
  pub sizes : AllByRecursion (λ b. body_size_of b ≤ network.genesis.params.max_body_size) chain
  pub ledger : ledger_of network chain ≡ Some s.ledger
  pub params : s.params ≡ network.genesis.params
  pub tip : s.tip ≡ tip_after genesis_tip chain
