pub mod StreamLaws
pub mod SentLaws
