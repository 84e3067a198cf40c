pub mod Telling
pub mod Knowing
pub mod Gathering
