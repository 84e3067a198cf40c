pub mod View
pub mod Held
pub mod Judgement
pub mod BlockDiffs
