-- What crates above cite of this one's proofs, and no other file: how it begins, and that what was settled before a block
-- came is settled after it.
pub use Rattle.chainsel.proofs.AtHand.{at_hand}
pub use Rattle.chainsel.proofs.Deaths.{dead_with}
pub use Rattle.chainsel.proofs.OnWays.{candidate_on_ways, chain_on_ways}
pub use Rattle.chainsel.proofs.Sides.{sides_among, if_some}
pub use Rattle.chainsel.proofs.Settling.{settled_at_start, settled_live, settled_without, selection_at_hand, IsNextStore, settled_again, switched_at_hand, depth_next}
