pub mod Members
pub mod Opened
pub mod Bare
pub mod ScriptTexts
pub mod Fits
pub mod ScriptClauses
pub mod ForCallers
