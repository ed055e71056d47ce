pub mod Words
pub mod TheoryLines
pub mod SpecLines
pub mod Printed
pub mod PrintedSpec
pub mod ProgramLines
pub mod inner
