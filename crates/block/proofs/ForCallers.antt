-- What crates above cite of this one's proofs, and no other file.
pub use Rattle.block.proofs.OneAnswer.{same_read, not_both, same_fault, has_answer}
-- The transactions of a block that has a text nest two items less deep than a block may.
pub use Rattle.block.proofs.Parts.{transactions_nest}
-- The header of a block of transactions that are handed in, where its numbers are in range.
pub use Rattle.block.proofs.FullBlocks.{full_header}
-- Bytes that were read as a block begin as one does.
pub use Rattle.block.proofs.Kept.{block_begins}
-- Blocks may cross threads, checked or seen.
pub use Rattle.block.proofs.Crossing.{CheckedBlock-send, CheckedBlock-sync, Seen-send}
