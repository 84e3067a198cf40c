-- What crates above cite of this one's proofs, and no other file.

-- Decoding hexadecimal text asks for no memory, and what is known of a text of another length.
pub use Rattle.ident.proofs.HexTexts.{no_want_of_memory, another_length}
