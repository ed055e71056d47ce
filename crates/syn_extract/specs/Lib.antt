pub mod Final
pub mod inner
