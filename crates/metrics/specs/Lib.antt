pub mod Format
pub mod Metrics
pub mod View
