pub mod Crossing
pub mod ForCallers
pub mod Lists
pub mod Noting
pub mod Places
pub mod Searches
