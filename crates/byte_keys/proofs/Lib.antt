-- What callers cite of this crate's proofs.
pub mod ForCallers
