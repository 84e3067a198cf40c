pub mod Steps
pub mod Document
pub mod Judgement
pub mod Meaning
pub mod View
pub mod Held
