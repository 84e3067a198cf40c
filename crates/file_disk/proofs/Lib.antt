pub mod Changes
pub mod Kept
