pub mod Ends
pub mod Newcomers
