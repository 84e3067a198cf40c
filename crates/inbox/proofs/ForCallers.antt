-- What crates above cite of this one's proofs, and no other file.

-- What came of a peer, when one arrival is added to a list.
pub use Rattle.inbox.proofs.Lists.{came_own, came_other}
