pub mod Numbers
pub mod Frees
pub mod Lengths
pub mod ForCallers
