pub mod Chained
pub mod Noted
pub mod Inside
pub mod Indexed
pub mod Searches
pub mod InsideIndex
