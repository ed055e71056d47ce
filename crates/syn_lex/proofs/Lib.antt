pub mod OnePlace
pub mod OneCut
pub mod Runs
pub mod Window
pub mod TokenSteps
pub mod OneAnswer
pub mod Spelling
pub mod Led
pub mod Comments
pub mod ByGrammar
pub mod NotSpelled
mod LineWords
mod AsciiNames
