-- What crates above cite of this one's proofs, and no other file.

-- The two laws of reading a transaction.
pub use Rattle.tx.proofs.TransactionTexts.{NestsWithin, nested_transaction_reads}
pub use Rattle.tx.proofs.Rising.{same_list}
-- Of the same members there is one list that rises.
pub use Rattle.tx.proofs.OneOrder.{one_order}
-- An address that was read has the bytes, and an address is read from its bytes.
pub use Rattle.tx.proofs.AddressTexts.{address_read, address_again}
