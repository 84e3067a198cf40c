-- What is told of what comes next on the chain.
use Rattle.std.specs.Prelude.{◌≡◌, ℕ, List, map, Option, Some, None}
use Rattle.model.specs.Block.{Block, block_text}
use Rattle.model.specs.Chain as chain
use Rattle.model.specs.Ledger.{Network}
use Rattle.model.specs.Follower.{Instruction, Stay, AddBlock, RollBack}
use Rattle.model.specs.History.{Open, Opened, TooManyFollowers, Next, Instructed, Forward, Forwarded, Close, Reply}
use Rattle.model.specs.Journal.{Knowledge, IsCalled, IsLook}
use Rattle.shared.specs.Asking.{IsAsked}
use Rattle.shared.specs.Entries.{call_by}
use Rattle.shared.specs.Later.{IsLater}
use Rattle.conversing.specs.declared.block_point.BlockPoint.{BlockPoint}
use Rattle.conversing.specs.declared.told.ChainTip.{ChainTip}
use Rattle.conversing.specs.declared.told.ToldBlock.{ToldBlock}
use Rattle.conversing.specs.declared.outcome.Outcome.{Outcome}
use Rattle.conversing.specs.declared.outcome.Outcome.TheVariants as outcomes
use Rattle.conversing.specs.Requests.{Point}
use Rattle.serving.specs.ChainTelling.{IsTipOf}
use Rattle.serving.specs.BlockTelling.{IsToldAs}

-- a point that a client names, as the chain has it
abbrev pub point_named : Point → chain.Point
point_named point = record { number = point.number; hash = point.hash }

-- a point that is told
abbrev pub point_told : BlockPoint → chain.Point
point_told point = record { number = point.number; hash = point.hash }

-- The lane's follower has this number: it had it, or it was opened now.
pub data HasFollower (network : Network) (before : Knowledge) (had : Option ℕ) (after : Knowledge) (id : ℕ)
    : Type 0 where
  Had : had ≡ Some id → after ≡ before → HasFollower network before had after id
  New : had ≡ None → IsCalled network before (call_by before.caller Open (Opened id)) after
      → HasFollower network before had after id

-- The lane has no follower: it had none, and none was opened, since no number is free.
pub record HasNoFollower (network : Network) (before : Knowledge) (had : Option ℕ) (after : Knowledge) : Type 0 where
  pub none : had ≡ None
  pub call : IsCalled network before (call_by before.caller Open TooManyFollowers) after

-- Of a follower's call nothing is told. The lane has its follower, which it had or which was opened now, and from there
-- on its caller made calls, whatever they were, or none; or it has no follower, since no number is free.
pub data HasFollowed (network : Network) (before : Knowledge) (had : Option ℕ) (after : Knowledge) (has : Option ℕ)
    : Type 0 where
  By : (id : ℕ) (opened : Knowledge) → HasFollower network before had opened id → IsLater network opened after
      → has ≡ Some id → HasFollowed network before had after has
  Without : HasNoFollower network before had after → has ≡ None → HasFollowed network before had after has

-- ---- points

abbrev pub IsPointFound : Option chain.Point → ChainTip → Outcome → Type 0
IsPointFound None tip outcome = outcome ≡ outcomes.NoIntersection tip
IsPointFound (Some found) tip outcome =
    (point : BlockPoint) × (outcome ≡ outcomes.Intersection point tip) × (point_told point ≡ found)

-- the follower of this number is set to the first of the points that is on the selected chain, which is told, or that
-- none is; and where the chain ends that is selected after all that the caller has then seen
pub record TellsSet (network : Network) (points : List chain.Point) (id : ℕ) (before after : Knowledge)
    (outcome : Outcome) : Type 0 where
  pub found : Option chain.Point
  pub set : Knowledge
  pub call : IsCalled network before (call_by before.caller (Forward id points) (Forwarded found)) set
  pub tip : ChainTip
  pub so : IsAsked network set after (λ s. IsTipOf s.chain tip)
  pub told : IsPointFound found tip outcome

-- `findIntersection`: so of the lane's follower, which it keeps; or there is none, which is told
pub data TellsIntersection (network : Network) (points : List Point) (before : Knowledge) (had : Option ℕ)
    (after : Knowledge) (has : Option ℕ) (outcome : Outcome) : Type 0 where
  Set : (id : ℕ) (opened : Knowledge) → HasFollower network before had opened id
      → TellsSet network (map point_named points) id opened after outcome → has ≡ Some id
      → TellsIntersection network points before had after has outcome
  Full : HasNoFollower network before had after → has ≡ None → outcome ≡ outcomes.NoFollower
      → TellsIntersection network points before had after has outcome

-- ---- what comes next

-- for a while nothing was due: each time the caller looked at the height and then asked
pub data HasIdled (network : Network) (id : ℕ) : Knowledge → Knowledge → Type 0 where
  NotYet : (a : Knowledge) → HasIdled network id a a
  Again : (a b c d : Knowledge) (height : ℕ) → HasIdled network id a b → IsLook network b height c
      → IsCalled network c (call_by c.caller (Next id) (Instructed Stay)) d → HasIdled network id a d

-- then the caller looked once more, asked, and this was the answer
pub record IsDueAfter (network : Network) (id : ℕ) (before : Knowledge) (instruction : Instruction)
    (after : Knowledge) : Type 0 where
  pub idled : Knowledge
  pub idle : HasIdled network id before idled
  pub height : ℕ
  pub looked : Knowledge
  pub look : IsLook network idled height looked
  pub call : IsCalled network looked (call_by looked.caller (Next id) (Instructed instruction)) after

-- a block to put on is told with its text, and a point to go back to
abbrev pub IsInstructionTold : Instruction → ChainTip → Outcome → Type 0
IsInstructionTold Stay tip outcome = ⊥
IsInstructionTold (AddBlock bytes) tip outcome =
    (told : ToldBlock) × (outcome ≡ outcomes.Forward told tip) × (b : Block) × IsToldAs b told × (block_text b ≡ bytes)
IsInstructionTold (RollBack back) tip outcome =
    (point : BlockPoint) × (outcome ≡ outcomes.Backward point tip) × (point_told point ≡ back)

-- what comes next for the follower of this number is told, once something does, and where the chain ends that is
-- selected after all that the caller has then seen; or the program ends while nothing does, which is told
pub data TellsDue (network : Network) (ends : Type 0) (id : ℕ) (before after : Knowledge) (outcome : Outcome)
    : Type 0 where
  Due : (instruction : Instruction) (moved : Knowledge) → IsDueAfter network id before instruction moved
      → (tip : ChainTip) → IsAsked network moved after (λ s. IsTipOf s.chain tip)
      → IsInstructionTold instruction tip outcome → TellsDue network ends id before after outcome
  Ended : ends → IsDueAfter network id before Stay after → outcome ≡ outcomes.Ending
      → TellsDue network ends id before after outcome

-- `nextBlock`: so of the lane's follower, which it keeps; or there is none, which is told
pub data TellsNext (network : Network) (ends : Type 0) (before : Knowledge) (had : Option ℕ) (after : Knowledge)
    (has : Option ℕ) (outcome : Outcome) : Type 0 where
  Comes : (id : ℕ) (opened : Knowledge) → HasFollower network before had opened id
      → TellsDue network ends id opened after outcome → has ≡ Some id
      → TellsNext network ends before had after has outcome
  Full : HasNoFollower network before had after → has ≡ None → outcome ≡ outcomes.NoFollower
      → TellsNext network ends before had after has outcome

-- ---- the end

-- a client has left: its follower is closed, or was before, or it has none
pub data HasLeft (network : Network) (before : Knowledge) (had : Option ℕ) (after : Knowledge) : Type 0 where
  HadNone : had ≡ None → after ≡ before → HasLeft network before had after
  HadOne : (id : ℕ) (reply : Reply) → had ≡ Some id
      → IsCalled network before (call_by before.caller (Close id) reply) after → HasLeft network before had after
