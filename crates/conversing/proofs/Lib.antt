pub mod DigitLaws
pub mod Gathering
pub mod IdLaws
pub mod RequestLaws
pub mod ReplyLaws
pub mod PieceLaws
pub mod TalkLaws
pub mod WaitLaws
mod ListLaws
