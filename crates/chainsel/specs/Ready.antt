-- What a selection asks of its caller.
use Rattle.std.specs.Prelude.{◌≡◌, ◌≢◌, ◌<◌, ◌-◌, List, ◌++◌, length, true}
use Rattle.std.specs.List.{AllByRecursion}
use Rattle.model.specs.Block.{Block, block_hash_of}
use Rattle.model.specs.Ledger.{Network}
use Rattle.model.specs.Chain.{BeginsWith, HaveDistinctHashes, NoneLonger, immutable_length, immutable_part}
use Rattle.model.specs.Chain.{genesis_tip, tip_after}
use Rattle.blockstore.specs.Stored.{Store, HasBlock, blocks_of}
use Rattle.ledgerdb.specs.Values.{Database, depth}
use Rattle.ledgerdb.specs.Chains.{IsDatabaseOf}
use Rattle.chainsel.specs.Dead.{IsDead}
use Rattle.chainsel.specs.Sides.{IsSide}

-- How things stand between two selections. The database is that of the selected chain, with as many states as may be
-- rolled back, and the chain begins with the one that was opened on. The store has the live blocks, so those of the
-- chain past its immutable part, and no two of one hash, and ways to them begin behind the immutable tip. No valid
-- chain of theirs through the immutable tip is longer than the selected one, and marked blocks are dead. The states
-- that the database keeps beside the chain are those of chains of live blocks and blocks of the selected one.
pub record IsSettled (network : Network) (chain : List Block) (store : Store) (db : Database) : Type 0 where
  pub database : IsDatabaseOf network chain db
  pub depth : depth db ≡ length chain - immutable_length network chain
  pub opened : BeginsWith chain network.opened
  pub root : store.root ≡ tip_after genesis_tip (immutable_part network chain)
  pub live : AllByRecursion (λ b. immutable_length network chain < b.header.number → HasBlock store b) chain
  pub past : AllByRecursion (λ b. immutable_length network chain < b.header.number) (blocks_of store)
  pub distinct : HaveDistinctHashes (blocks_of store)
  pub longest : NoneLonger network (blocks_of store ++ chain) chain
  pub marks : AllByRecursion (λ s. s.invalid ≡ true → IsDead network chain (blocks_of store) s.block) store.blocks
  pub sides : AllByRecursion (IsSide network (blocks_of store ++ chain)) db.sides

-- A block comes, past the immutable part, and no live block has its hash.
pub record IsReady (network : Network) (chain : List Block) (store : Store) (db : Database) (new : Block) : Type 0 where
  pub settled : IsSettled network chain store db
  pub past : immutable_length network chain < new.header.number
  pub alone : AllByRecursion (λ b. block_hash_of b ≢ block_hash_of new) (blocks_of store)
