-- What crates above cite of this one's proofs, and no other file.

-- A shared core may be used by several threads, and a caller or an adder may go to another one.
pub use Rattle.shared.proofs.Crossing.{Shared-send, Shared-sync, Caller-send, Adder-send}
-- The blocks that are never rolled back are one list after a journal, and begin those after a longer one.
pub use Rattle.shared.proofs.Copies.{one_list, later_list}
