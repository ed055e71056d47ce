pub mod Definitions
pub mod Derivations
pub mod Initial
pub mod Rows
pub mod Rules
pub mod Starts
pub mod inner
