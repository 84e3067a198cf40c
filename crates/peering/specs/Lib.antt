pub mod Sending
pub mod Streams
