pub mod View
pub mod Depth
pub mod Falls
pub mod Reading
pub mod Bare
pub mod Fitting
pub mod Held
pub mod Made
