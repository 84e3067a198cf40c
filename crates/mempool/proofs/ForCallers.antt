-- What crates above cite of this one's proofs, and no other file.

-- A mempool may go to another thread.
pub use Rattle.mempool.proofs.Crossing.{Mempool-send}
-- What a submission leaves: the transactions, how many there may be, and what they leave of some outputs.
pub use Rattle.mempool.proofs.Submissions.{left_txs, left_capacity, left_unspent}
