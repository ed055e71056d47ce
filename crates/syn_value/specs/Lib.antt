pub mod formers
pub mod Values
pub mod Defaults
pub mod Texts
pub mod inner
