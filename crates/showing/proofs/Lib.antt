pub mod Members
pub mod Appended
