-- What crates above cite of this one's proofs, and no other file.

-- Steps of readings: what a `do` block gave, and what was taken from the front.
pub use Rattle.cbor.proofs.Steps.{IsBytes, AllByRecursion-bytes, bind_some, guard-true, guard_none, guard_some, some_is, Takes, Takes-then, Takes-length}
-- The two laws of each part: what is read is spelled so, and what is spelled so is read, whatever follows it.
pub use Rattle.cbor.proofs.Reading.{head-length, head_takes, head_again, bytes_takes, bytes_again, fixed_takes, fixed_again, null_takes, null_again}
-- The same two laws of each shape, in one record. A reading that is made of shapes has them by naming the shapes' laws.
pub use Rattle.cbor.proofs.ShapeLaws.{Fits, AllFit, TakesItem, TakesItems, ReadsItem, ReadsItems, unsigned_reads, negative_reads, string_reads, fixed_reads, such_reads, as_reads, made_reads, deeper_reads, same_reads, bounded_reads, short_reads, nonempty_reads}
pub use Rattle.cbor.proofs.ShapeLaws.{other_head, major_of, other_major, either_reads, optional_reads, no_items, next_item, array_item, nothing_reads, last_reads, both_reads, as_members_read, members_takes, members_again, array_reads}
pub use Rattle.cbor.proofs.ListLaws.{list_array_reads, EntriesFit, TakesEntry, ReadsEntry, entry_reads, same_entries_read, map_reads}
pub use Rattle.cbor.proofs.FieldLaws.{Field, HasKeys, ValuesFit, StopsAt, TakesFields, ReadsFields, no_fields_reads, field_reads, optional_field_reads, fields_reads, as_fields_reads, record_reads, fields_text, pairs_join, counts}
-- From those laws, what a public reader promises.
pub use Rattle.cbor.proofs.ShapeLaws.{has_text, text_fits, reads_found, reads_refused, promised_read}
-- How a loop reads and writes like items and entries.
pub use Rattle.cbor.proofs.ListLoops.{map_push, with_front, list_goes_on, list_ends, list_done, entries_go_on, entries_end, entries_done, some_in_array}
pub use Rattle.cbor.proofs.ShapeWrites.{drop_here, kept, kept_on, kept_same, string_written, map_twice, IsPartWritten, none_written, one_written, all_written, map_written, whatever_err, key_lacks_room, value_lacks_room, head_lacks_room, entries_lack_room}
pub use Rattle.cbor.proofs.ListWrites.{IsListPartWritten, no_item_written, one_item_written, all_items_written, items_counted, list_written, item_lacks_room, array_head_lacks_room, items_lack_room}
-- What a reading doesn't give, where memory was wanting in the midst of it.
pub use Rattle.cbor.proofs.Wants.{if_want, want_map, wants_anyway, no_as, no_as_fields, no_both_first, no_both_second, no_fields_first, no_fields_second, no_array, no_record, no_field, no_optional_field, no_such, no_empty}
-- Which heads the same bytes begin with.
pub use Rattle.cbor.proofs.Bare.{one_head}
