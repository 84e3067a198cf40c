-- Why a block isn't selected, as the code answers it, and what it finds on the way.
use Rattle.std.specs.Prelude.{◌≡◌, ℕ, List, ◌∷◌, ◌++◌}
use Rattle.model.specs.Block.{Block, block_hash_of}
use Rattle.model.specs.Ledger.{Network}
use Rattle.model.specs.Chain.{tip_at, Follows, IsValidChain}
use Rattle.model.specs.History.{State}
use Rattle.ledger.specs.View.{fault_of}
use Rattle.model.specs.Asked as asked
use Rattle.chain_core.specs.declared.why.Before.{Before}
use Rattle.chain_core.specs.declared.why.Before.TheVariants as before
use Rattle.chain_core.specs.declared.why.Footing.{Footing}
use Rattle.chain_core.specs.declared.why.Footing.TheVariants as footing
use Rattle.chain_core.specs.declared.why.Why.{Why}
use Rattle.chain_core.specs.declared.why.Why.TheVariants as why

abbrev pub why_of : Why → asked.Why
why_of why.Unknown = asked.Unknown
why_of why.Selected = asked.Selected
why_of (why.Waits hash) = asked.Waits hash.bytes
why_of (why.Misfit hash) = asked.Misfit hash.bytes
why_of (why.Invalid hash fault) = asked.Invalid hash.bytes (fault_of fault)
why_of why.NotLonger = asked.NotLonger

-- ---- the way back from a block

-- what stands before the block, as the code answers it
abbrev pub IsBefore : {S : Type 0} → Network → State → Block → Before S → Type 0
IsBefore network s b (before.Chain keep) = asked.HangsOn s keep b
IsBefore network s b (before.Live c) = asked.IsBeside network s c.now
IsBefore network s b (before.Missing hash) = asked.Misses network s b hash.bytes
IsBefore network s b before.Misfit = asked.Misfits network s b

-- where a live block does, it follows that one
abbrev pub LeadsOn : {S : Type 0} → Block → Before S → Type 0
LeadsOn b (before.Chain keep) = Unit {0}
LeadsOn b (before.Live c) = Follows (tip_at c.now) b
LeadsOn b (before.Missing hash) = Unit {0}
LeadsOn b before.Misfit = Unit {0}

-- what one comes to who goes back
abbrev pub IsFooting : Network → State → (first : Block) → Footing → Type 0
IsFooting network s first (footing.Chain keep) = asked.HangsOn s keep first
IsFooting network s first (footing.Missing hash) = asked.Misses network s first hash.bytes
IsFooting network s first (footing.Misfit hash) = asked.Misfits network s first × (block_hash_of first ≡ hash.bytes)

-- these blocks are the way back to that from the block of this hash
abbrev pub IsWayTo : Network → State → (hash : List ℕ) → (blocks : List Block) → Footing → Type 0
IsWayTo network s hash blocks footing =
    (way : asked.WayBack network s hash) × (blocks ≡ way.first ∷ way.rest) × IsFooting network s way.first footing

-- what becomes of a way behind these blocks: one of it is refused, or all are let through
abbrev pub IsJudged : Network → (root way : List Block) → Why → Type 0
IsJudged network root way (why.Invalid hash fault) = asked.IsRefusedOn network root way hash.bytes (fault_of fault)
IsJudged network root way why.NotLonger = IsValidChain network (root ++ way)
IsJudged network root way why.Unknown = ⊥
IsJudged network root way why.Selected = ⊥
IsJudged network root way (why.Waits hash) = ⊥
IsJudged network root way (why.Misfit hash) = ⊥
