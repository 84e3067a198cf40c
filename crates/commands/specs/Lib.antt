pub mod CommandLine
pub mod JobView
pub mod ServeLine
pub mod Ending
pub mod GenesisFile
pub mod Schemes
pub mod Statuses
pub mod TextFile
