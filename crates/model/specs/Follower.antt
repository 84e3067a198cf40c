-- Followers: clients that are told the selected chain, block by block, and what of it is left again (the Consensus and
-- Storage Layer report, followers). That a follower is opened at genesis and is set forward to a point without a
-- rollback is this project's own.
use Rattle.std.specs.Prelude.{◌≡◌, ℕ, suc, ◌≤◌, ◌<◌, ◌⊎◌, List, [], ◌∷◌, ◌++◌, length, take, Option, Some, None}
use Rattle.std.specs.Prelude.{slice_get, unwrap_or, ◌+◌, ◌-◌, min}
use Rattle.model.specs.Block.{Block, SpellsBlock, block_text}
use Rattle.model.specs.Chain.{Point, tip_point, BeginsWith}

-- A follower is two chains: the one that it was told, and how much of that every chain has had that was selected since.
pub record Follower : Type 0 where
  pub told : List Block
  pub agreed : List Block

-- a follower that stands at the end of this chain
abbrev pub standing_at : List Block → Follower
standing_at chain = record { told = chain; agreed = chain }

-- for each number its follower, and None where no follower of that number is open
abbrev pub Followers : Type 0
Followers = List (Option Follower)

-- the follower of this number, if it is open; so of any list of what is known of followers
abbrev pub follower_of : {X : Type 0} → List (Option X) → ℕ → Option X
follower_of followers id = unwrap_or (slice_get followers id) None

-- the least number of which no follower is open
abbrev pub free_id : {X : Type 0} → List (Option X) → ℕ
free_id [] = 0
free_id (None ∷ fs) = 0
free_id (Some f ∷ fs) = suc (free_id fs)

-- with this follower at the least free number
abbrev pub with_first_free : {X : Type 0} → X → List (Option X) → List (Option X)
with_first_free new [] = Some new ∷ []
with_first_free new (None ∷ fs) = Some new ∷ fs
with_first_free new (Some f ∷ fs) = Some f ∷ with_first_free new fs

-- with a follower of the least free number, which stands at genesis
abbrev pub with_opened : Followers → Followers
with_opened followers = with_first_free (standing_at []) followers

-- ---- the selected chain changes

-- the longest chain with which both chains begin
pub record IsCommonBeginning (one other common : List Block) : Type 0 where
  pub of_one : BeginsWith one common
  pub of_other : BeginsWith other common
  pub longest : (part : List Block) → BeginsWith one part → BeginsWith other part → length part ≤ length common

-- what was agreed is what the selected chain still has of it; what was told stays
pub record IsMoved (selected : List Block) (old new : Follower) : Type 0 where
  pub told : new.told ≡ old.told
  pub agreed : IsCommonBeginning old.agreed selected new.agreed

-- so of each follower
abbrev pub AreMoved : (selected : List Block) → (old new : Followers) → Type 0
AreMoved selected [] [] = Unit {0}
AreMoved selected (None ∷ olds) (None ∷ news) = AreMoved selected olds news
AreMoved selected (Some old ∷ olds) (Some new ∷ news) = IsMoved selected old new × AreMoved selected olds news
AreMoved selected olds news = ⊥

-- ---- what comes next

-- what a follower is told: nothing, a block's bytes to put on, or the point to go back to
pub data Instruction : Type 0 where
  Stay : Instruction
  AddBlock : (bytes : List ℕ) → Instruction
  RollBack : Point → Instruction

-- what was told is agreed, and this block of the selected chain comes behind it
abbrev pub IsDue : (selected : List Block) → Follower → Block → Type 0
IsDue selected f b = (length f.told ≤ length f.agreed) × (slice_get selected (length f.told) ≡ Some b)

-- RULE OF INSTRUCTIONS
-- Where less is agreed than was told, the follower goes back to the end of that. Else, where it was told the selected
-- chain, nothing is left. Else it gets the next block of that chain.
abbrev pub IsNext : (selected : List Block) → (old : Follower) → Instruction → (new : Follower) → Type 0
IsNext selected old (RollBack point) new =
    (length old.agreed < length old.told) × (point ≡ tip_point old.agreed) × (new ≡ standing_at old.agreed)
IsNext selected old Stay new = (length old.told ≤ length old.agreed) × (old.told ≡ selected) × (new ≡ old)
IsNext selected old (AddBlock bytes) new = (b : Block) × IsDue selected old b × (bytes ≡ block_text b)
    × (new ≡ record { told = old.told ++ b ∷ []; agreed = old.agreed ++ b ∷ [] })

-- how many instructions are left: one to go back where less is agreed than was told, and one for each block of the
-- selected chain that isn't agreed
abbrev pub left_to_tell : (selected : List Block) → Follower → ℕ
left_to_tell selected f = min 1 (length f.told - length f.agreed) + (length selected - length f.agreed)

-- ---- set forward to a point

-- the first `point.number` blocks of the chain end at the point; genesis is on every chain
abbrev pub IsOn : List Block → Point → Type 0
IsOn chain point = tip_point (take point.number chain) ≡ point

-- the first of these points that is on the chain, if there is one
abbrev pub IsFirstOn : List Block → List Point → Option Point → Type 0
IsFirstOn chain [] found = found ≡ None
IsFirstOn chain (point ∷ points) found =
    (IsOn chain point × (found ≡ Some point)) ⊎ ((IsOn chain point → ⊥) × IsFirstOn chain points found)

-- ---- instructions that are carried out

-- the instruction, carried out on the one chain, gives the other
abbrev pub IsReplayed : List Block → Instruction → List Block → Type 0
IsReplayed old Stay new = new ≡ old
IsReplayed old (AddBlock bytes) new = (b : Block) × SpellsBlock b bytes × (new ≡ old ++ b ∷ [])
IsReplayed old (RollBack point) new = (new ≡ take point.number old) × (tip_point new ≡ point)

-- these instructions, one after the other
abbrev pub AreReplayed : List Block → List Instruction → List Block → Type 0
AreReplayed old [] new = new ≡ old
AreReplayed old (first ∷ others) new =
    (between : List Block) × IsReplayed old first between × AreReplayed between others new
