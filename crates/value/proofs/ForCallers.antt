-- What crates above cite of this one's proofs, and no other file.

-- The order of the texts of byte strings: by length, and then by their bytes.
pub use Rattle.value.proofs.TextOrder.{text_order, same_length_order}
-- The two laws of reading a value and what is minted.
pub use Rattle.value.proofs.ValueTexts.{value_reads, mint_reads}
-- Copying one after the other, as a loop does.
pub use Rattle.value.proofs.Copies.{IsPartCopied, one_copied, all_copied}
-- A walk over a list that stops at the first that is bad, and otherwise finds all good.
pub use Rattle.value.proofs.Walks.{none_bad, any_moved, any_here, any_there, IsWalked, walk_goes_on, walk_stops}
-- Where something is there it stands for something.
pub use Rattle.value.proofs.Nesting.{some_seen}
-- Members, in whatever order they stand.
pub use Rattle.value.proofs.OneMaking.{IsIn, moved_in, from_all}
-- Assets of which a name is too long, a quantity is 0, or one is told twice are those of no value.
pub use Rattle.value.proofs.Making.{no_value}
