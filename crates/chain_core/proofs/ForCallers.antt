-- What crates above cite of this one's proofs, and no other file.

-- A core and its answers may go to another thread.
pub use Rattle.chain_core.proofs.Crossing.{Core-send, Reply-send}
-- A core before anything came stands for the opening state.
pub use Rattle.chain_core.proofs.Runs.{opening_stands}
-- What is told of texts is told of them with more behind, and no block is told of those that no rollback reaches.
pub use Rattle.chain_core.proofs.OpenedOn.{fault_with_more}
pub use Rattle.chain_core.proofs.ReadAgain.{never_told, again_of}
