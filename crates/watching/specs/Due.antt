-- Which instructions an index takes, where memory doesn't run out.
use Rattle.std.specs.Prelude.{ℕ, ◌+◌, ◌-◌, ◌≤◌, ◌⊎◌, List, [], ◌∷◌, ◌++◌, length}
use Rattle.model.specs.Utxo.{Utxo}
use Rattle.model.specs.Block.{Block}
use Rattle.model.specs.Chain.{Point, Follows, IsLinked, genesis_tip}
use Rattle.model.specs.Follower.{Instruction, RollBack, IsReplayed, AreReplayed}
use Rattle.watching.specs.Chains.{Watched, CanRollBack, IsIndexOf}
use Rattle.watching.specs.Ledgers.{AreTaken}

-- BLOCKS THAT COME NEXT
-- A block that goes on from the chain of an index follows its tip, and so is put on.
abbrev pub NextAreTaken : Type 0
NextAreTaken = (granted : Utxo) (past since : List Block) (w : Watched) (b : Block) → IsIndexOf granted past since w
    → IsLinked genesis_tip ((past ++ since) ++ b ∷ []) → Follows w.last.tip b

-- POINTS WITHIN REACH
-- An index can be rolled back to each point of its chain that is no further back than as many blocks as it can roll
-- back.
abbrev pub PointsAreKept : Type 0
PointsAreKept = (granted : Utxo) (past since after : List Block) (w : Watched) (point : Point)
    → IsIndexOf granted past since w → IsReplayed (past ++ since) (RollBack point) after
    → length (past ++ since) ≤ point.number + length w.older → CanRollBack w point

-- an index of a chain of `height` blocks, which never had more than `furthest`, can roll back to where it began, or to
-- where the last k blocks of the furthest chain begin
abbrev pub ReachesBack : (furthest begun height : ℕ) → Watched → Type 0
ReachesBack furthest begun height w =
    (height ≤ begun + length w.older) ⊎ (height ≤ (furthest - w.k) + length w.older)

-- none of the chains that instructions lead over, one after the other, has more blocks
abbrev pub AreWithin : (furthest : ℕ) → List Block → List Instruction → Type 0
AreWithin furthest chain [] = length chain ≤ furthest
AreWithin furthest chain (first ∷ others) = (length chain ≤ furthest)
    × ((next : List Block) → IsReplayed chain first next → AreWithin furthest next others)

-- REACH OF AN INDEX
-- So it is after instructions, where it was so before.
abbrev pub ReachStays : Type 0
ReachStays = (furthest : ℕ) (granted : Utxo) (past since told : List Block) (instructions : List Instruction)
    (old new : Watched) → IsIndexOf granted past since old → AreTaken old instructions new
    → AreReplayed (past ++ since) instructions told → AreWithin furthest (past ++ since) instructions
    → ReachesBack furthest (length past) (length (past ++ since)) old
    → ReachesBack furthest (length past) (length told) new
