pub mod OnLogs
pub mod Opened
pub mod Beside
pub mod Growing
pub mod ForCallers
