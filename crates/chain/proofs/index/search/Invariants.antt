use Rattle.std.proofs.Common.{ℕ, Bool, ◌<◌, ◌≤◌, ◌-◌, length}
use Rattle.chain.specs.Chained.{chain_of}
use Rattle.chain.specs.Indexed.{first_hashes}
use Rattle.chain.specs.Searches.{EndsBy}
use Rattle.chain.proofs.index.search.Given as goal

-- where the search ends from here on, all of it ends
abbrev pub invariant-down : goal.invariant-down
invariant-down g l = record {
  low : 0 < l.number;
  high : l.number ≤ length l.nodes;
  deep : l.depth < l.number;
  way : (steps last : ℕ) (bit : Bool)
      → EndsBy l.nodes (first_hashes (length l.nodes) (chain_of l.chain)) l.hash.bytes steps l.number l.depth last bit
      → (all : ℕ) × EndsBy l.nodes (first_hashes (length l.nodes) (chain_of l.chain)) l.hash.bytes all 1 0 last bit;
}

-- each next block is a later one
abbrev pub decreases-down : goal.decreases-down
decreases-down g l = length l.nodes - l.number
