pub mod Arrivals
pub mod Rule
pub mod Codes
pub mod Ends
pub mod Opening
pub mod Telling
