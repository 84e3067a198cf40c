pub mod Faults
pub mod ForCallers
pub mod Openings
pub mod Bodies
pub mod Backwards
