-- Valid chains, the immutable part, candidates and the selection rule (the Consensus and Storage Layer
-- report, chain selection and the chain database).
use Rattle.std.specs.Prelude.{◌≡◌, ◌≢◌, ℕ, ◌+◌, ◌-◌, ◌≤◌, ◌<◌, List, [], ◌∷◌, length, take, filter, nat_lt, min, max}
use Rattle.std.specs.Prelude.{Contains, Option, Some, None, IsSome, unwrap_or, replicate}
use Rattle.std.specs.List.{AllByRecursion}
use Rattle.std.specs.Ordering.{nat_cmp}
use Rattle.std.specs.declared.cmp.Ordering.TheVariants.{Greater}
use Rattle.std.specs.Cmp.Lexicographic.{slice_cmp}
use Rattle.model.specs.Ledger.{Network, ledger_of}
use Rattle.model.specs.Limits.{hash_size}
use Rattle.model.specs.Block.{Block, SpellsBlock, block_text, block_hash_of, body_size_of}

-- ---- valid chains

-- where a chain ends; genesis has number 0, slot 0 and no hash
pub record Tip : Type 0 where
  pub number : ℕ
  pub slot : ℕ
  pub hash : Option (List ℕ)

abbrev pub genesis_tip : Tip
genesis_tip = record { number = 0; slot = 0; hash = None }

abbrev pub tip_at : Block → Tip
tip_at b = record { number = b.header.number; slot = b.header.slot; hash = Some (block_hash_of b) }

-- the block may come next: the next number, the hash of the block before, a later slot
pub record Follows (tip : Tip) (b : Block) : Type 0 where
  pub number : b.header.number ≡ tip.number + 1
  pub previous : b.header.previous ≡ tip.hash
  pub slot : tip.slot < b.header.slot

-- each block follows the one before it, the first one the tip
abbrev pub IsLinked : Tip → List Block → Type 0
IsLinked tip [] = Unit {0}
IsLinked tip (b ∷ bs) = Follows tip b × IsLinked (tip_at b) bs

-- blocks that apply one after the other from genesis
pub record IsValidChain (network : Network) (chain : List Block) : Type 0 where
  pub linked : IsLinked genesis_tip chain
  pub sizes : AllByRecursion (λ b. body_size_of b ≤ network.genesis.params.max_body_size) chain
  pub ledger : IsSome (ledger_of network chain)

-- ---- selection

-- how many blocks of a chain are never rolled back: all but the last k, and at least those that were opened on
abbrev pub immutable_length : Network → List Block → ℕ
immutable_length network chain = min (length chain) (max (length chain - network.genesis.k) (length network.opened))

-- these blocks
abbrev pub immutable_part : Network → List Block → List Block
immutable_part network chain = take (immutable_length network chain) chain

-- the blocks that may still come into a selected chain: those past the immutable part
abbrev pub live_blocks : Network → List Block → List Block → List Block
live_blocks network kept chain = filter (λ b. nat_lt (immutable_length network chain) b.header.number) kept

-- no two blocks of the list have one hash
abbrev pub HaveDistinctHashes : List Block → Type 0
HaveDistinctHashes [] = Unit {0}
HaveDistinctHashes (b ∷ bs) = AllByRecursion (λ c. block_hash_of c ≢ block_hash_of b) bs × HaveDistinctHashes bs

-- no block of these has the hash
abbrev pub NoneHas : List Block → (hash : List ℕ) → Type 0
NoneHas blocks hash = AllByRecursion (λ b. block_hash_of b ≢ hash) blocks

-- the chain begins with this one
abbrev pub BeginsWith : List Block → List Block → Type 0
BeginsWith chain part = take (length part) chain ≡ part

-- a valid chain of kept blocks through the immutable tip of the selected chain
pub record IsCandidate (network : Network) (kept selected candidate : List Block) : Type 0 where
  pub valid : IsValidChain network candidate
  pub members : AllByRecursion (Contains kept) candidate
  pub begins : BeginsWith candidate (immutable_part network selected)

abbrev pub NoneLonger : Network → List Block → List Block → Type 0
NoneLonger network kept selected =
    (candidate : List Block) → IsCandidate network kept selected candidate → length candidate ≤ length selected

-- where a chain ends that goes on from this tip
abbrev pub tip_after : Tip → List Block → Tip
tip_after tip [] = tip
tip_after tip (b ∷ bs) = tip_after (tip_at b) bs

-- the hash of the last block, and of genesis no bytes
abbrev pub tip_hash : List Block → List ℕ
tip_hash chain = unwrap_or (tip_after genesis_tip chain).hash []

-- a place on a chain: genesis is number 0 with a hash of 32 zero bytes
pub record Point : Type 0 where
  pub number : ℕ
  pub hash : List ℕ

-- where a chain ends, as a point
abbrev pub tip_point : List Block → Point
tip_point chain = record {
  number = (tip_after genesis_tip chain).number;
  hash = unwrap_or (tip_after genesis_tip chain).hash (replicate hash_size 0);
}

-- the longest candidate, and of several the one whose last block has the least hash, compared as bytes
pub record IsChosen (network : Network) (kept selected chosen : List Block) : Type 0 where
  pub candidate : IsCandidate network kept selected chosen
  pub longer : length selected < length chosen
  pub longest : (other : List Block) → IsCandidate network kept selected other → length other ≤ length chosen
  pub least : (other : List Block) → IsCandidate network kept selected other → length other ≡ length chosen
      → slice_cmp nat_cmp (tip_hash chosen) (tip_hash other) ≢ Greater

-- SELECTION RULE (the Consensus and Storage Layer report, chain selection; the tie is this project's own)
-- It is asked anew after each block that is kept, over all kept blocks. Candidates are the valid chains of these
-- through the immutable tip: where none is longer than the selected chain that stays, and else it becomes the longest
-- one, of several the one with the least hash at its end.
pub data IsSelection (network : Network) (kept selected : List Block) : List Block → Type 0 where
  Stays : NoneLonger network kept selected → IsSelection network kept selected selected
  Changes : (chosen : List Block) → IsChosen network kept selected chosen → IsSelection network kept selected chosen

-- ---- what a node is opened on

-- it is a valid chain, whose blocks have texts
pub record IsOpening (network : Network) : Type 0 where
  pub valid : IsValidChain network network.opened
  pub spelled : AllByRecursion (λ b. SpellsBlock b (block_text b)) network.opened
