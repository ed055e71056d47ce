pub mod Ending
pub mod inner
