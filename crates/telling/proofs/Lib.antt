pub mod Told
pub mod ValueTexts
