pub mod TextLines
pub mod Stepping
pub mod Lexing
pub mod inner
