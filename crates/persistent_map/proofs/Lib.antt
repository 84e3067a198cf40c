pub mod After
pub mod Counts
pub mod Depths
pub mod ForCallers
pub mod Split
