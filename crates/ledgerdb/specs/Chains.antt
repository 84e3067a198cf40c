-- Of which chain a ledger database is, and what a fork makes ready for a chain.
use Rattle.std.specs.Prelude.{◌≡◌, ℕ, ◌-◌, List, [], ◌∷◌, ◌++◌, length, take}
use Rattle.model.specs.Block.{Block}
use Rattle.model.specs.Ledger.{Network}
use Rattle.model.specs.Applying.{LedgerState, IsStateOf}
use Rattle.ledgerdb.specs.Values.{Database, Prepared}

-- a chain without its last `back` blocks
abbrev pub without_last : ℕ → List Block → List Block
without_last back chain = take (length chain - back) chain

module _ (network : Network) where
  -- beside each of the blocks that come after a chain stands the state of that chain with the blocks up to it
  abbrev pub AreStatesOf : List Block → List Block → List LedgerState → Type 0
  AreStatesOf root [] [] = Unit {0}
  AreStatesOf root [] (t ∷ ts) = ⊥
  AreStatesOf root (b ∷ bs) [] = ⊥
  AreStatesOf root (b ∷ bs) (t ∷ ts) =
      IsStateOf network (root ++ b ∷ []) t × AreStatesOf (root ++ b ∷ []) bs ts

  -- DATABASE OF A CHAIN
  -- The chain is an older part and blocks after it: the anchor is the older part's state, and beside each of the blocks
  -- stands the state of the chain up to it.
  pub record IsDatabaseOf (chain : List Block) (db : Database) : Type 0 where
    pub older : List Block
    pub blocks : List Block
    pub parts : chain ≡ older ++ blocks
    pub anchor : IsStateOf network older db.anchor
    pub states : AreStatesOf older blocks db.states

  -- what a fork makes ready for blocks that come after a chain: the chain's state, and beside each block the state of
  -- that chain with the blocks up to it
  pub record IsPreparedOf (chain : List Block) (blocks : List Block) (prepared : Prepared) : Type 0 where
    pub root : IsStateOf network chain prepared.root
    pub states : AreStatesOf chain blocks prepared.states
