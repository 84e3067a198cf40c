-- Questions to a shared core: the journal has nothing of them.
use Rattle.std.specs.Prelude.{◌≡◌, ℕ, List, map, take}
use Rattle.model.specs.Block.{Block, block_hash_of}
use Rattle.model.specs.Ledger.{Network}
use Rattle.model.specs.History.{State}
use Rattle.model.specs.Asked.{AreUnconnected}
use Rattle.model.specs.Journal.{Journal, Knowledge, IsLegalJournal, IsLook}

-- the journal is legal, and this is so of the state that it leaves
pub record IsSoAfter (network : Network) (journal : Journal) (says : State → Type 0) : Type 0 where
  pub legal : IsLegalJournal network journal
  pub so : says legal.state

-- RULE OF A QUESTION: the caller looks at the height, and what it has then seen, which begins with all that it had
-- seen, is a legal journal; what it is told is so of the state that just this journal leaves.
pub record IsAsked (network : Network) (before after : Knowledge) (says : State → Type 0) : Type 0 where
  pub height : ℕ
  pub look : IsLook network before height after
  pub told : IsSoAfter network after.seen says

-- these are the hashes of the unconnected blocks, those with the greatest numbers first, and at most so many
pub record AreFurthest (network : Network) (s : State) (most : ℕ) (hashes : List (List ℕ)) : Type 0 where
  pub blocks : List Block
  pub unconnected : AreUnconnected network s blocks
  pub hashes_are : hashes ≡ map block_hash_of (take most blocks)
