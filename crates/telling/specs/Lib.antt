pub mod Misreadings
pub mod HexText
pub mod Kinds
pub mod Identifiers
pub mod Faults
pub mod Verdicts
pub mod Shown
