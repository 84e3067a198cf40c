-- What crates above cite of this one's proofs, and no other file.
use Rattle.std.proofs.Common.{◌≡◌, ℕ, ◌≤◌, List, ◌++◌, length, take, ap, ◌∙◌, arith}
use Rattle.std.proofs.lemmas.List.{length-take-le, take-append-le, take-take}
use Rattle.model.specs.Block.{Block, block_hash_of}
use Rattle.std.specs.Prelude.{map}
use Rattle.chain.specs.Indexed.{first_hashes}
-- A chain and an index may go to another thread.
pub use Rattle.chain.proofs.Crossing.{Chain-send, HashIndex-send}
-- Blocks by their numbers, and where the first blocks of a chain end.
pub use Rattle.chain.proofs.Places.{numbered, numbered_behind, numbered_within, numbered_past, numbered_there, numbered_is_within, tip_of_numbered, point_of_numbered}

-- The hashes of the first blocks stay where the chain is cut behind them, and goes on otherwise.
pub firsts_stay : (count len : ℕ) (chain more : List Block) → count ≤ len → len ≤ length chain → first_hashes count (take len chain ++ more) ≡ first_hashes count chain
firsts_stay count len chain more within shorter =
    ap (map block_hash_of) (take-append-le count (take len chain) more (omega (arith, length-take-le len chain shorter)) ∙ take-take count len chain within)
