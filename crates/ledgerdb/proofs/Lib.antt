pub mod Along
pub mod Beside
pub mod Databases
pub mod Forks
pub mod ForCallers
