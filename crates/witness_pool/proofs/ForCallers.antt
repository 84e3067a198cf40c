-- What crates above cite of this one's proofs, and no other file.

-- How a loop asks each of a list, or makes something of each.
pub use Rattle.witness_pool.proofs.Loops.{IsLeft, goes_on, stops, ends, IsPartMade, none_made, one_made, all_made}
-- A transaction with its verdicts may cross threads.
pub use Rattle.witness_pool.proofs.Crossing.{CheckedTx-send, CheckedTx-sync}
