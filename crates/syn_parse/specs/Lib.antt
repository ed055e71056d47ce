pub mod inner
pub mod Heights
pub mod Lexemes
pub mod Written
pub mod Parsing
