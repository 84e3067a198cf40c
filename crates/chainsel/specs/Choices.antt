-- What a selection answers.
use Rattle.std.specs.Prelude.{◌≡◌, ◌≢◌, ℕ, ◌≤◌, List, ◌∷◌, ◌++◌, length, take, Contains, IfSome}
use Rattle.std.specs.List.{AllByRecursion}
use Rattle.std.specs.Ordering.{nat_cmp}
use Rattle.std.specs.declared.cmp.Ordering.TheVariants.{Greater}
use Rattle.std.specs.Cmp.Lexicographic.{slice_cmp}
use Rattle.model.specs.Genesis.{Genesis}
use Rattle.model.specs.Signature.{Verifies}
use Rattle.model.specs.Block.{Block, block_hash_of}
use Rattle.model.specs.Ledger.{Network, network_on}
use Rattle.model.specs.Chain.{genesis_tip, tip_after, tip_hash, immutable_length, IsLinked, IsSelection}
use Rattle.model.specs.Applying.{LedgerState}
use Rattle.model.specs.History.{IsChange}
use Rattle.ident.specs.Kinds.{BlockHash}
use Rattle.blockstore.specs.Stored.{Store, blocks_of}
use Rattle.blockstore.specs.Live.{HoldsLive}
use Rattle.ledgerdb.specs.Values.{Database, depth, count}
use Rattle.ledgerdb.specs.Chains.{without_last, IsPreparedOf}
use Rattle.chainsel.specs.Dead.{IsDead}
use Rattle.chainsel.specs.Paths.{IsOnPath}
use Rattle.chainsel.specs.Sides.{IsSide}
use Rattle.chainsel.specs.Ready.{IsReady}
use Rattle.chainsel.specs.declared.selection.Choice.{Choice}
use Rattle.chainsel.specs.declared.selection.Choice.TheVariants as choice
use Rattle.chainsel.specs.declared.selection.Selection.{Selection}
use Rattle.chainsel.specs.declared.selection.Switch.{Switch}

-- The selection rule makes this chain of the selected one when the block is kept, beside whatever was kept: the blocks
-- of the chain are, and the store has those that are live.
abbrev pub IsSelected : Network → Store → (chain : List Block) → (new : Block) → (selected : List Block) → Type 0
IsSelected network store chain new selected =
    (kept : List Block) → HoldsLive network kept chain store → AllByRecursion (Contains kept) chain
    → IsSelection network (new ∷ kept) chain selected

-- The chain without its last `back` blocks, and with these after it, is selected. Just `back` are rolled back, no
-- more than the database can, and just these are put on. They are live or the block that came, and what they make is
-- prepared.
pub record IsSwitch {S : Type 0} (network : Network) (chain : List Block) (store : Store) (db : Database)
    (new : Block) (switch : Switch S) : Type 0 where
  pub selected : IsSelected network store chain new (without_last switch.back chain ++ switch.blocks.items)
  pub change :
      IsChange chain (without_last switch.back chain ++ switch.blocks.items) switch.back (length switch.blocks.items)
  pub within : switch.back ≤ depth db
  pub members : AllByRecursion (Contains (new ∷ blocks_of store)) switch.blocks.items
  pub back : switch.prepared.back ≡ switch.back
  pub prepared : IsPreparedOf network (without_last switch.back chain) switch.blocks.items switch.prepared

-- the answer of the selection rule
abbrev pub IsChoice : {S : Type 0} → Network → List Block → Store → Database → Block → Choice S → Type 0
IsChoice network chain store db new choice.Keep = IsSelected network store chain new chain
IsChoice network chain store db new (choice.Switch switch) = IsSwitch network chain store db new switch

-- a live block has this hash, or the one that came has, and it is dead
pub record IsFoundDead (network : Network) (chain live : List Block) (hash : BlockHash) : Type 0 where
  pub block : Block
  pub member : Contains live block
  pub same : block_hash_of block ≡ hash.bytes
  pub dead : IsDead network chain live block

-- each of these hashes is that of a dead block
abbrev pub AreDead : Network → (chain : List Block) → Store → (new : Block) → List BlockHash → Type 0
AreDead network chain store new found = AllByRecursion (IsFoundDead network chain (new ∷ blocks_of store)) found

-- they are so in every network in which all was ready
abbrev pub AreDeadInAll : Verifies → (chain : List Block) → Store → Database → (new : Block) → List BlockHash → Type 0
AreDeadInAll verifies chain store db new found =
    (genesis : Genesis) (opened : List Block) → IsReady (network_on genesis verifies opened) chain store db new
    → AreDead (network_on genesis verifies opened) chain store new found

-- the state is that of a chain of blocks at hand, in every network in which all was ready
abbrev pub IsSideInAll : Verifies → (chain : List Block) → Store → Database → (new : Block) → LedgerState → Type 0
IsSideInAll verifies chain store db new s =
    (genesis : Genesis) (opened : List Block) → IsReady (network_on genesis verifies opened) chain store db new
    → IsSide (network_on genesis verifies opened) ((new ∷ blocks_of store) ++ chain) s

-- The switch can be made: no more blocks are rolled back than the chain has and the database can roll back, and what is
-- prepared rolls back just as many and puts on just as many as the switch does.
pub record CanSwitch {S : Type 0} (chain : List Block) (db : Database) (switch : Switch S) : Type 0 where
  pub on_chain : switch.back ≤ length chain
  pub within : switch.back ≤ depth db
  pub back : switch.prepared.back ≡ switch.back
  pub count : count switch.prepared ≡ length switch.blocks.items

-- where the chain is to change, it can
abbrev pub IsPossible : {S : Type 0} → List Block → Database → Choice S → Type 0
IsPossible chain db choice.Keep = Unit {0}
IsPossible chain db (choice.Switch switch) = CanSwitch chain db switch

-- OPEN PATH (this project's own)
-- Blocks that go on, each following the one before, from the first `keep` of the selected chain, at least its immutable
-- part. One of them is the block that came, the others are live, and none has a mark or is told to be dead.
pub record IsOpenPath (network : Network) (chain : List Block) (store : Store) (new : Block) (told : List BlockHash)
    (keep : ℕ) (path : List Block) : Type 0 where
  pub low : immutable_length network chain ≤ keep
  pub high : keep ≤ length chain
  pub linked : IsLinked (tip_after genesis_tip (take keep chain)) path
  pub through : Contains path new
  pub members : AllByRecursion (IsOnPath store told new) path
  pub untold : AllByRecursion (λ hash. hash.bytes ≢ block_hash_of new) told

-- it isn't longer than the selected one, nor as long with a lesser hash at its end
pub record IsNoBetter (selected other : List Block) : Type 0 where
  pub longest : length other ≤ length selected
  pub least : length other ≡ length selected → slice_cmp nat_cmp (tip_hash selected) (tip_hash other) ≢ Greater

-- EXPLAINED CHOICE (this project's own)
-- With the marks there are, what is told to be dead explains the choice by links alone. Where the chain stays, no open
-- path makes a longer one of it, and where it changes, none makes a better one than is selected.
abbrev pub IsExplained : {S : Type 0} → Network → (chain : List Block) → Store → (new : Block)
    → (told : List BlockHash) → Choice S → Type 0
IsExplained network chain store new told choice.Keep =
    (keep : ℕ) (path : List Block) → IsOpenPath network chain store new told keep path
    → length (take keep chain ++ path) ≤ length chain
IsExplained network chain store new told (choice.Switch switch) =
    (keep : ℕ) (path : List Block) → IsOpenPath network chain store new told keep path
    → IsNoBetter (without_last switch.back chain ++ switch.blocks.items) (take keep chain ++ path)

-- Of every network in which all was ready the answer is that of the selection rule, whatever was kept. What was found
-- dead is so, whatever comes later, and explains the choice by links alone: nothing found dead that it rests on is kept
-- back. Whatever it was asked with, a switch can be made: the database can commit what is prepared. The state that is
-- answered may be kept beside the chain.
pub record IsSelectionAnswer {S : Type 0} (verifies : Verifies) (chain : List Block) (store : Store) (db : Database)
    (new : Block) (selection : Selection S) : Type 0 where
  pub choice : (genesis : Genesis) (opened : List Block)
      → IsReady (network_on genesis verifies opened) chain store db new
      → IsChoice (network_on genesis verifies opened) chain store db new selection.choice
  pub invalid : (genesis : Genesis) (opened : List Block)
      → IsReady (network_on genesis verifies opened) chain store db new
      → AllByRecursion (IsFoundDead (network_on genesis verifies opened) chain (new ∷ blocks_of store))
      selection.invalid.items
  pub told : (genesis : Genesis) (opened : List Block)
      → IsReady (network_on genesis verifies opened) chain store db new
      → IsExplained (network_on genesis verifies opened) chain store new selection.invalid.items selection.choice
  pub switch : IsPossible chain db selection.choice
  pub side : IfSome selection.side (IsSideInAll verifies chain store db new)
