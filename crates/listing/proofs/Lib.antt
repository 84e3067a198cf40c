pub mod Wholes
pub mod Listed
