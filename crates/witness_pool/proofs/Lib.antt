pub mod Loops
pub mod Crossing
pub mod ForCallers
pub mod Turns
pub mod Numbers
