pub mod Boxed
pub mod Found
pub mod NotBegun
pub mod TextsRead
