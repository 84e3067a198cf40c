-- Histories: what came, what was answered, and what is then kept, selected, waiting and told (this project's own, over
-- the Consensus and Storage Layer report's rules).
use Rattle.std.specs.Prelude.{◌≡◌, ◌≢◌, ◌++◌, ℕ, ◌+◌, ◌-◌, ◌≤◌, ◌<◌, ◌⊎◌, List, [], ◌∷◌, length, take, Contains, Some}
use Rattle.std.specs.Prelude.{None, Option, slice_set, filter, not, bytes_eq, ◌==◌, if◌then◌else◌, ◌↔◌}
use Rattle.std.specs.List.{AllByRecursion}
use Rattle.model.specs.First.{IsFirst}
use Rattle.model.specs.Block.{Block, SpellsBlock, block_text, bytes_in, block_hash_of, body_hash_of}
use Rattle.model.specs.Genesis.{IsOver}
use Rattle.model.specs.Ledger.{Network}
use Rattle.model.specs.Chain.{Point, immutable_length, live_blocks, IsSelection, BeginsWith, IsValidChain, NoneLonger}
use Rattle.model.specs.Chain.{NoneHas}
use Rattle.model.specs.Limits.{block_size_limit, follower_limit}
use Rattle.model.specs.Transaction.{Transaction}
use Rattle.model.specs.Mempool.{SubmitReply, Submits, revalidated, IsValidMempool}
use Rattle.model.specs.Follower.{Follower, Followers, standing_at, follower_of, free_id, with_opened, AreMoved}
use Rattle.model.specs.Follower.{Instruction, Stay, IsDue, IsNext, IsFirstOn, AreReplayed}

-- the blocks that are kept, the newest first, and last those of the chain that was opened on; the selected chain, its
-- first block first; the mempool, in the order in which its transactions came; and the open followers
pub record State : Type 0 where
  pub kept : List Block
  pub chain : List Block
  pub mempool : List Transaction
  pub followers : Followers

-- before the first event: the chain that the node is opened on is kept and selected
abbrev pub opening : Network → State
opening network = record { kept = network.opened; chain = network.opened; mempool = []; followers = [] }

-- ---- refusals

-- why bytes are refused, in the order in which the reasons are looked for
pub data Refusal : Type 0 where
  TooLarge : Refusal
  Malformed : Refusal
  BodyHashMismatch : Refusal
  TooOld : Refusal
  Known : Refusal
  Clash : Refusal
  VolatileFull : Refusal

abbrev pub refusal_number : Refusal → ℕ
refusal_number TooLarge = 1
refusal_number Malformed = 2
refusal_number BodyHashMismatch = 3
refusal_number TooOld = 4
refusal_number Known = 5
refusal_number Clash = 6
refusal_number VolatileFull = 7

-- the bytes are read as a block that has this property
abbrev pub IsBlockWith : List ℕ → (Block → Type 0) → Type 0
IsBlockWith bytes P = (b : Block) × SpellsBlock b bytes × P b

abbrev pub live_of : Network → State → List Block
live_of network s = live_blocks network s.kept s.chain

-- there are as many live blocks as may be, or with this many bytes more they have more than they may have
abbrev pub IsFullFor : Network → State → (bytes : ℕ) → Type 0
IsFullFor network s bytes = (network.genesis.max_volatile ≤ length (live_of network s))
    ⊎ IsOver network.genesis.max_volatile_bytes (bytes_in (live_of network s) + bytes)

-- the condition of each refusal
abbrev pub Applies : Network → State → List ℕ → Refusal → Type 0
Applies network s bytes TooLarge = block_size_limit < length bytes
Applies network s bytes Malformed = (b : Block) → SpellsBlock b bytes → ⊥
Applies network s bytes BodyHashMismatch = IsBlockWith bytes (λ b. b.header.body_hash ≢ body_hash_of b.transactions)
Applies network s bytes TooOld = IsBlockWith bytes (λ b. b.header.number ≤ immutable_length network s.chain)
Applies network s bytes Known = (b : Block) × Contains (live_of network s) b × (block_text b ≡ bytes)
Applies network s bytes Clash = IsBlockWith bytes (λ b. (c : Block)
    × (Contains (live_of network s) c ⊎ Contains s.chain c) × (block_hash_of c ≡ block_hash_of b)
    × (block_text c ≢ bytes))
Applies network s bytes VolatileFull = IsFullFor network s (length bytes)

-- the first refusal that applies
abbrev pub IsRefused : Network → State → List ℕ → Refusal → Type 0
IsRefused network s bytes refusal = IsFirst refusal_number (Applies network s bytes) refusal

-- ---- steps

-- what comes to the node
pub data Event : Type 0 where
  Arrive : List ℕ → Event
  Submit : List ℕ → Event
  Open : Event
  Next : (id : ℕ) → Event
  Forward : (id : ℕ) → List Point → Event
  Close : (id : ℕ) → Event
  Discard : (hash : List ℕ) → Event

-- what it answers: that the block is kept, with how many blocks of the old chain were rolled back and how many
-- of the new one were put on; that the bytes are refused; what is answered to a submission; a new follower's id, or
-- that too many are open; an instruction; the point that a follower was set to, if it was; that it was closed; that no
-- such follower is open; that a block is kept no more; that no live block beside the selected chain has the hash; or
-- that memory ran out
pub data Reply : Type 0 where
  Kept : (back added : ℕ) → Reply
  Refused : Refusal → Reply
  Submitted : SubmitReply → Reply
  Opened : (id : ℕ) → Reply
  TooManyFollowers : Reply
  Instructed : Instruction → Reply
  Forwarded : Option Point → Reply
  Closed : Reply
  UnknownFollower : Reply
  Discarded : Reply
  NotBeside : Reply
  OutOfMemory : Reply

-- the length of the longest common beginning of two chains
pub record IsCommonLength (old new : List Block) (n : ℕ) : Type 0 where
  pub in_old : n ≤ length old
  pub in_new : n ≤ length new
  pub common : take n old ≡ take n new
  pub longest : (m : ℕ) → m ≤ length old → m ≤ length new → take m old ≡ take m new → m ≤ n

-- from the one chain to the other `back` blocks are rolled back and `added` put on
pub record IsChange (old new : List Block) (back added : ℕ) : Type 0 where
  pub common : ℕ
  pub is_common : IsCommonLength old new common
  pub left : back + common ≡ length old
  pub put_on : added + common ≡ length new

-- RULE OF A KEPT BLOCK (the report, addition of a block to the chain database)
-- Bytes are kept where they are read as a block and no refusal applies. The block joins the kept ones, the selection
-- rule then says which chain is selected, and the reply counts the blocks rolled back and put on. The mempool and the
-- followers are brought up to date with that chain; followers are told of it later.
pub record Keeps (network : Network) (s : State) (bytes : List ℕ) (back added : ℕ) (t : State) : Type 0 where
  pub block : Block
  pub read : SpellsBlock block bytes
  pub not_refused : (refusal : Refusal) → Applies network s bytes refusal → ⊥
  pub kept : t.kept ≡ block ∷ s.kept
  pub followers : AreMoved t.chain s.followers t.followers
  pub mempool : t.mempool ≡ revalidated network t.chain s.mempool
  pub selection : IsSelection network t.kept s.chain t.chain
  pub change : IsChange s.chain t.chain back added

-- bytes are submitted, and the mempool is what the rule of submissions leaves
pub record Takes (network : Network) (s : State) (bytes : List ℕ) (reply : SubmitReply) (t : State) : Type 0 where
  pub mempool : List Transaction
  pub submits : Submits network s.chain s.mempool bytes reply mempool
  pub after : t ≡ record s { mempool = mempool }

-- a follower of the least free number is opened
pub record Opens (s : State) (id : ℕ) (t : State) : Type 0 where
  pub is_free : id ≡ free_id s.followers
  pub few : id < follower_limit
  pub after : t ≡ record s { followers = with_opened s.followers }

-- with another follower of this number, or with none
abbrev pub with_follower : State → ℕ → Option Follower → State
with_follower s id follower = record s { followers = slice_set s.followers id follower }

-- an open follower gets the instruction that is next
pub record Instructs (s : State) (id : ℕ) (instruction : Instruction) (t : State) : Type 0 where
  pub old : Follower
  pub new : Follower
  pub is_open : follower_of s.followers id ≡ Some old
  pub next : IsNext s.chain old instruction new
  pub after : t ≡ with_follower s id (Some new)

-- a block comes next for the follower of this number
abbrev pub HasDue : State → ℕ → Type 0
HasDue s id = (f : Follower) × (b : Block) × (follower_of s.followers id ≡ Some f) × IsDue s.chain f b

-- a follower that is set to a point stands there; where there is no point nothing changes
abbrev pub state_forwarded : State → ℕ → Option Point → State
state_forwarded s id None = s
state_forwarded s id (Some point) = with_follower s id (Some (standing_at (take point.number s.chain)))

-- an open follower is set to the first of the points that is on the selected chain
pub record Forwards (s : State) (id : ℕ) (points : List Point) (found : Option Point) (t : State) : Type 0 where
  pub old : Follower
  pub is_open : follower_of s.followers id ≡ Some old
  pub first : IsFirstOn s.chain points found
  pub after : t ≡ state_forwarded s id found

-- an open follower is open no more, and its number is free
pub record Closes (s : State) (id : ℕ) (t : State) : Type 0 where
  pub old : Follower
  pub is_open : follower_of s.followers id ≡ Some old
  pub after : t ≡ with_follower s id None

-- a live block has this hash, and none of the selected chain has it
pub record HasBeside (network : Network) (s : State) (hash : List ℕ) : Type 0 where
  pub block : Block
  pub live : Contains (live_of network s) block
  pub hash_is : block_hash_of block ≡ hash
  pub apart : NoneHas s.chain hash

-- those of the blocks that don't have this hash
abbrev pub without_hash : List ℕ → List Block → List Block
without_hash hash blocks = filter (λ b. not (bytes_eq (block_hash_of b) hash)) blocks

-- RULE OF A DISCARDED BLOCK (this project's own)
-- A live block beside the selected chain is kept no more. The chain, the mempool and the followers stay as they are;
-- the block may arrive again.
pub record Discards (network : Network) (s : State) (hash : List ℕ) (t : State) : Type 0 where
  pub beside : HasBeside network s hash
  pub after : t ≡ record s { kept = without_hash hash s.kept }

-- STEP RULE (this project's own, over the report's interface of the chain database)
-- From one state an event may be answered so, and leave the other; each kind of event has its own replies. What is
-- refused changes nothing, nor does OutOfMemory, which may be answered to any event.
abbrev pub Step : Network → State → Event → Reply → State → Type 0
Step network s (Arrive bytes) (Kept back added) t = Keeps network s bytes back added t
Step network s (Arrive bytes) (Refused refusal) t = IsRefused network s bytes refusal × (t ≡ s)
Step network s (Submit bytes) (Submitted reply) t = Takes network s bytes reply t
Step network s Open (Opened id) t = Opens s id t
Step network s Open TooManyFollowers t = (follower_limit ≤ free_id s.followers) × (t ≡ s)
Step network s (Next id) (Instructed instruction) t = Instructs s id instruction t
Step network s (Next id) UnknownFollower t = (follower_of s.followers id ≡ None) × (t ≡ s)
Step network s (Forward id points) (Forwarded found) t = Forwards s id points found t
Step network s (Forward id points) UnknownFollower t = (follower_of s.followers id ≡ None) × (t ≡ s)
Step network s (Close id) Closed t = Closes s id t
Step network s (Close id) UnknownFollower t = (follower_of s.followers id ≡ None) × (t ≡ s)
Step network s (Discard hash) Discarded t = Discards network s hash t
Step network s (Discard hash) NotBeside t = (HasBeside network s hash → ⊥) × (t ≡ s)
Step network s event OutOfMemory t = t ≡ s
-- no event is answered otherwise
Step network s event reply t = ⊥

-- ---- histories

-- an event and its reply
pub record Entry : Type 0 where
  pub event : Event
  pub reply : Reply

-- these events were answered so, one after the other
abbrev pub IsRun : Network → State → List Entry → State → Type 0
IsRun network s [] t = t ≡ s
IsRun network s (e ∷ es) t = (mid : State) × Step network s e.event e.reply mid × IsRun network mid es t

-- a history from the beginning, and the state that it leaves
abbrev pub IsLegal : Network → List Entry → State → Type 0
IsLegal network history s = IsRun network (opening network) history s

-- ---- what a history says by itself

-- a block whose arrival was answered Kept
abbrev pub BringsBlock : Event → Reply → Block → Type 0
BringsBlock (Arrive bytes) (Kept back added) b = SpellsBlock b bytes
BringsBlock event reply b = ⊥

-- a block of this hash is discarded
abbrev pub DropsBlock : Event → Reply → Block → Type 0
DropsBlock (Discard hash) Discarded b = block_hash_of b ≡ hash
DropsBlock event reply b = ⊥

-- none of these discards it
abbrev pub NoneDrops : List Entry → Block → Type 0
NoneDrops entries b = AllByRecursion (λ e. DropsBlock e.event e.reply b → ⊥) entries

-- its arrival was answered Kept, and no block of its hash was discarded since
abbrev pub IsKeptBy : List Entry → Block → Type 0
IsKeptBy [] b = ⊥
IsKeptBy (e ∷ es) b = (BringsBlock e.event e.reply b × NoneDrops es b) ⊎ IsKeptBy es b

-- the length of the selected chain, from the replies alone
abbrev pub length_with : ℕ → Reply → ℕ
length_with n (Kept back added) = n - back + added
length_with n reply = n

abbrev pub length_from : ℕ → List Entry → ℕ
length_from n [] = n
length_from n (e ∷ es) = length_from (length_with n e.reply) es

abbrev pub length_after : Network → List Entry → ℕ
length_after network history = length_from (length network.opened) history

-- the chain was the beginning of a selected chain after some part of the history
pub record WasSelected (network : Network) (history : List Entry) (chain : List Block) : Type 0 where
  pub past : List Entry
  pub since : List Entry
  pub split : history ≡ past ++ since
  pub state : State
  pub legal : IsLegal network past state
  pub begins : BeginsWith state.chain chain

-- the event with this reply sets the follower of the number to this chain: it is opened, or set to a point
abbrev pub SetsFollower : State → ℕ → Event → Reply → (chain : List Block) → Type 0
SetsFollower s id Open (Opened opened) chain = (opened ≡ id) × (chain ≡ [])
SetsFollower s id (Forward at points) (Forwarded (Some point)) chain = (at ≡ id) × (chain ≡ take point.number s.chain)
SetsFollower s id event reply chain = ⊥

-- what an event with this reply tells the follower of the number
abbrev pub told_to : ℕ → Event → Reply → List Instruction
told_to id (Next at) (Instructed instruction) = if at == id then instruction ∷ [] else []
told_to id event reply = []

-- the instructions that the follower of the number was given, one after the other
abbrev pub instructions_to : ℕ → List Entry → List Instruction
instructions_to id [] = []
instructions_to id (e ∷ es) = told_to id e.event e.reply ++ instructions_to id es

-- each of these asks what the follower of the number is told next, and is answered
abbrev pub AreTold : ℕ → List Entry → Type 0
AreTold id entries = AllByRecursion (λ e. (instruction : Instruction) × (e.event ≡ Next id)
    × (e.reply ≡ Instructed instruction)) entries

-- The instructions that the follower of this number was given since it was last set, carried out on the chain that it
-- was set to, give this chain.
pub record WasTold (network : Network) (history : List Entry) (id : ℕ) (told : List Block) : Type 0 where
  pub past : List Entry
  pub set : Entry
  pub since : List Entry
  pub split : history ≡ past ++ set ∷ since
  pub state : State
  pub legal : IsLegal network past state
  pub start : List Block
  pub sets : SetsFollower state id set.event set.reply start
  pub never_again : AllByRecursion (λ e. (s : State) (chain : List Block)
      → SetsFollower s id e.event e.reply chain → ⊥) since
  pub replayed : AreReplayed start (instructions_to id since) told

-- ---- the chain theorem

-- What is promised of an open follower: the instructions that it was given, carried out from where it was last set on,
-- give the chain that it was told; never has it to go back more than k blocks; and nothing is left to tell it exactly
-- where it was told the selected chain.
pub record IsFollowing (network : Network) (history : List Entry) (state : State) (id : ℕ) (f : Follower)
    : Type 0 where
  pub replayed : WasTold network history id f.told
  pub begins : BeginsWith f.told f.agreed
  pub bounded : length f.told ≤ length f.agreed + network.genesis.k
  pub at_end : (instruction : Instruction) (new : Follower) → IsNext state.chain f instruction new
      → (instruction ≡ Stay) ↔ (f.told ≡ state.chain)

-- The history is legal and leaves this state; the selected chain is valid; no valid chain of kept blocks through the
-- immutable tip is longer; the mempool is valid in order on it; and each open follower follows it.
pub record ChainTheorem (network : Network) (history : List Entry) (state : State) : Type 0 where
  pub legal : IsLegal network history state
  pub valid : IsValidChain network state.chain
  pub longest : NoneLonger network state.kept state.chain
  pub mempool : IsValidMempool network state.chain state.mempool
  pub followers : (id : ℕ) (f : Follower) → follower_of state.followers id ≡ Some f
      → IsFollowing network history state id f
