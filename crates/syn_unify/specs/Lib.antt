pub mod Apart
pub mod Bindings
pub mod OutTerms
pub mod inner
