pub mod Plain
pub mod PlainParts
pub mod PlainWholes
pub mod Told
pub mod Members
pub mod Listed
