pub mod Places
pub mod PlaceCodes
pub mod Standing
pub mod Calls
pub mod Inside
