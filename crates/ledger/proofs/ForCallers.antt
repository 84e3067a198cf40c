-- What crates above cite of this one's proofs, and no other file: a block that fits has none of the first four faults.
pub use Rattle.ledger.proofs.Faults.{none_of_four}
