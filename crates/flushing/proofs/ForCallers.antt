-- What crates above cite of this one's proofs, and no other file: where a core was opened on a log's blocks, these are the
-- first of its immutable ones; and a log without blocks has the first of whatever blocks.
pub use Rattle.flushing.proofs.Opened.{begins_on_opened, begins_with_none}
-- The same beside a core that threads share.
pub use Rattle.flushing.proofs.Beside.{nothing_begins, opened_begins}
-- Texts begin themselves, and what begins them begins all that they begin.
pub use Rattle.flushing.proofs.Growing.{begins_itself, begins_further}
