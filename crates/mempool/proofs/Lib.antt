pub mod Ids
pub mod Passing
pub mod Offers
pub mod Submissions
pub mod Crossing
pub mod ForCallers
