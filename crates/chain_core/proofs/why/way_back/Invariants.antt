use Rattle.std.proofs.Common.{◌≡◌, List, ◌∷◌, reverse}
use Rattle.std.specs.List.{AllByRecursion}
use Rattle.model.specs.Block.{Block, block_hash_of}
use Rattle.model.specs.Ledger.{Network}
use Rattle.model.specs.Chain.{tip_at, tip_after, IsLinked, NoneHas}
use Rattle.model.specs.History.{State}
use Rattle.blockstore.specs.Stored.{HasBlock}
use Rattle.model.specs.Asked.{IsBeside}
use Rattle.chain_core.specs.ChainDbs.{IsWhole, HasState}
use Rattle.chain_core.proofs.why.way_back.Given as goal

-- what was passed so far leads from the first of it to the block
abbrev pub invariant-loop-next : goal.invariant-loop-next
invariant-loop-next g l =
    (rest : List Block)
    × (reverse l.blocks.items ≡ l.first ∷ rest)
    × IsLinked (tip_at l.first) rest
    × (tip_after (tip_at l.first) rest ≡ tip_at l.block)
    × ((network : Network) (s : State) → IsWhole network l.chain_db → HasState network l.chain_db s → HasBlock l.chain_db.store l.block → NoneHas s.chain (block_hash_of l.block) → AllByRecursion (IsBeside network s) (l.first ∷ rest))

abbrev pub decreases-loop-next : goal.decreases-loop-next
decreases-loop-next g l = l.first.header.number
