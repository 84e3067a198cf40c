pub mod Crossing
pub mod Keeping
pub mod Ends
