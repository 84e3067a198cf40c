-- The blocks of a store are the live ones of what was kept.
use Rattle.std.specs.Prelude.{◌≡◌, ◌↔◌, ◌<◌, ◌≤◌, ℕ, List, [], ◌∷◌, length, Contains}
use Rattle.model.specs.Ledger.{Network}
use Rattle.model.specs.Block.{Block}
use Rattle.model.specs.Chain.{live_blocks, immutable_length}
use Rattle.model.specs.History.{without_hash}
use Rattle.blockstore.specs.Stored.{Store, HasBlock}

-- The store holds the blocks that may still come into a selected chain, of these kept ones beside this selected chain:
-- the same members, and as many.
pub record HoldsLive (network : Network) (kept chain : List Block) (store : Store) : Type 0 where
  pub members : (b : Block) → HasBlock store b ↔ Contains (live_blocks network kept chain) b
  pub count : length store.blocks ≡ length (live_blocks network kept chain)

-- before anything is kept
abbrev pub HoldsNothing : Store → Type 0
HoldsNothing store = (network : Network) → HoldsLive network [] [] store

-- where a live block is kept too, the store holds what is live then
abbrev pub GainsLive : Store → Block → Store → Type 0
GainsLive old b new =
    (network : Network) (kept chain : List Block) → HoldsLive network kept chain old
    → immutable_length network chain < b.header.number → HoldsLive network (b ∷ kept) chain new

-- where blocks of this hash are kept no more, the store holds what is live then
abbrev pub LosesLive : Store → (hash : List ℕ) → Store → Type 0
LosesLive old hash new =
    (network : Network) (kept chain : List Block) → HoldsLive network kept chain old
    → HoldsLive network (without_hash hash kept) chain new

-- where the selected chain grows and all up to its new immutable tip goes, the store holds what is live then
abbrev pub FollowsChain : Store → ℕ → Store → Type 0
FollowsChain old number new =
    (network : Network) (kept old_chain new_chain : List Block) → HoldsLive network kept old_chain old
    → immutable_length network old_chain ≤ immutable_length network new_chain
    → number ≡ immutable_length network new_chain → HoldsLive network kept new_chain new

-- what was live stays so
abbrev pub KeepsLive : Store → Store → Type 0
KeepsLive old new =
    (network : Network) (kept chain : List Block) → HoldsLive network kept chain old → HoldsLive network kept chain new
