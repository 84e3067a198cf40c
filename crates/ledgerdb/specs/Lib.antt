pub mod Values
pub mod Chains
pub mod Faults
pub mod Inside
