pub mod Dead
pub mod Sides
pub mod Ready
pub mod Choices
pub mod Paths
pub mod Ends
pub mod Founds
pub mod Judged
