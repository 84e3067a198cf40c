pub mod Misfits
pub mod Stops
pub mod Parts
pub mod Walks
