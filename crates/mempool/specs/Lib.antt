pub mod Contents
pub mod HeldWaiting
pub mod Calls
pub mod Picking
pub mod Taking
pub mod HeldPicked
pub mod View
pub mod Texts
