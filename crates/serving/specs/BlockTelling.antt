-- What is told of blocks and transactions.
use Rattle.std.specs.Prelude.{◌≡◌, ◌⊎◌, ℕ, List, map, Contains, Option, Some, None, MatchOption}
use Rattle.std.specs.Borrow.{Bor}
use Rattle.model.specs.Transaction.{transaction_id_of}
use Rattle.model.specs.Block.{Block, SpellsBlock, block_hash_of}
use Rattle.model.specs.Ledger.{Network}
use Rattle.model.specs.Chain.{NoneHas}
use Rattle.model.specs.History.{State, live_of}
use Rattle.model.specs.Applying as blocks
use Rattle.model.specs.Asked as asked
use Rattle.model.specs.Asked.{IsTxPlaceOf, IsWhyOf}
use Rattle.model.specs.Journal.{Knowledge}
use Rattle.chain_core.specs.Numbers.{block_numbered}
use Rattle.shared.specs.Asking.{IsAsked}
use Rattle.conversing.specs.declared.told.ToldBlock.{ToldBlock}
use Rattle.conversing.specs.declared.found.Standing.{Standing}
use Rattle.conversing.specs.declared.found.Standing.TheVariants as standings
use Rattle.conversing.specs.declared.found.Cause.{Cause}
use Rattle.conversing.specs.declared.found.Cause.TheVariants as causes
use Rattle.conversing.specs.declared.found.Found.TheVariants as found
use Rattle.conversing.specs.declared.outcome.Outcome.{Outcome}
use Rattle.conversing.specs.declared.outcome.Outcome.TheVariants.{Answered}
use Rattle.serving.specs.Reasons.{words_of, reason_words, fault_words}

-- ---- blocks

-- a block as it is told
pub record IsToldAs (b : Block) (told : ToldBlock) : Type 0 where
  pub number : told.number ≡ b.header.number
  pub slot : told.slot ≡ b.header.slot
  pub hash : told.hash ≡ block_hash_of b
  pub text : SpellsBlock b told.bytes.now

-- a block that was found is told, or that none was
abbrev pub IsFinding : Option Block → Outcome → Type 0
IsFinding None outcome = outcome ≡ Answered found.NoBlock
IsFinding (Some b) outcome = (told : ToldBlock) × (outcome ≡ Answered (found.Block told)) × IsToldAs b told

-- the block of this hash, on the chain or live, and none where there is none
abbrev pub IsBlockOf : Network → State → (hash : List ℕ) → Option Block → Type 0
IsBlockOf network s hash block =
    MatchOption block (NoneHas s.chain hash × NoneHas (live_of network s) hash)
    (λ b. (Contains s.chain b ⊎ Contains (live_of network s) b) × (block_hash_of b ≡ hash))

-- `queryBlock`: the block of this number of the selected chain, if it has one
pub record TellsBlockAt (network : Network) (number : ℕ) (before after : Knowledge) (outcome : Outcome) : Type 0 where
  pub block : Option Block
  pub told : IsFinding block outcome
  pub so : IsAsked network before after (λ s. block ≡ block_numbered s.chain number)

-- `queryBlock`: the block of this hash, if there is one
pub record TellsBlockOf (network : Network) (hash : List ℕ) (before after : Knowledge) (outcome : Outcome)
    : Type 0 where
  pub block : Option Block
  pub told : IsFinding block outcome
  pub so : IsAsked network before after (λ s. IsBlockOf network s hash block)

-- ---- transactions

abbrev pub place_told : Standing → asked.TxPlace
place_told (standings.Waits position) = asked.Waiting position
place_told (standings.Block number index) = asked.InBlock number index
place_told standings.Unknown = asked.NotFound

-- `queryTransaction`: where the transaction of this identifier stands
pub record TellsStanding (network : Network) (id : List ℕ) (before after : Knowledge) (outcome : Outcome)
    : Type 0 where
  pub standing : Standing
  pub told : outcome ≡ Answered (found.Transaction standing)
  pub so : IsAsked network before after (λ s. IsTxPlaceOf network s id (place_told standing))

-- `queryMempool`: the identifiers of the transactions that wait, in their order
pub record TellsMempool (network : Network) (before after : Knowledge) (outcome : Outcome) : Type 0 where
  pub ids : Bor (List (List ℕ))
  pub told : outcome ≡ Answered (found.Mempool ids)
  pub so : IsAsked network before after (λ s. ids.now ≡ map transaction_id_of s.mempool)

-- ---- why a block isn't selected

-- what is said against a block, and of which transaction
abbrev pub IsFaultTold : blocks.BlockFault → (hash : List ℕ) → Cause → Type 0
IsFaultTold (blocks.TxFault index reason) hash (causes.InvalidTransaction told_hash told_index told_reason) =
    (told_hash ≡ hash) × (told_index ≡ index) × (words_of told_reason ≡ reason_words reason)
IsFaultTold (blocks.TxFault index reason) hash cause = ⊥
IsFaultTold fault hash (causes.Invalid told_hash told_reason) =
    (told_hash ≡ hash) × (words_of told_reason ≡ fault_words fault)
IsFaultTold fault hash cause = ⊥

abbrev pub IsCauseOf : asked.Why → Cause → Type 0
IsCauseOf asked.Unknown cause = cause ≡ causes.Unknown
IsCauseOf asked.Selected cause = cause ≡ causes.Selected
IsCauseOf (asked.Waits hash) cause = cause ≡ causes.Waits hash
IsCauseOf (asked.Misfit hash) cause = cause ≡ causes.Misfit hash
IsCauseOf (asked.Invalid hash fault) cause = IsFaultTold fault hash cause
IsCauseOf asked.NotLonger cause = cause ≡ causes.NotLonger

-- `why`: why the block of this hash isn't selected
pub record TellsWhy (network : Network) (hash : List ℕ) (before after : Knowledge) (outcome : Outcome) : Type 0 where
  pub why : asked.Why
  pub cause : Cause
  pub told : outcome ≡ Answered (found.Why cause)
  pub words : IsCauseOf why cause
  pub so : IsAsked network before after (λ s. IsWhyOf network s hash why)
