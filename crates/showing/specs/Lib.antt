pub mod Lines
pub mod Values
pub mod Scripts
pub mod Transactions
pub mod Blocks
pub mod Geneses
pub mod Records
