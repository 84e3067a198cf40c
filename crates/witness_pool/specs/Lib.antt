pub mod Verdicts
pub mod Dealing
pub mod Jobs
pub mod Workers
