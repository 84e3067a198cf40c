pub mod Restarting
pub mod RestartView
pub mod Texts
pub mod Sharing
pub mod Beginning
pub mod Courses
