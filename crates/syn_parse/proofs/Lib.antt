mod FormFrames
mod FormLevels
mod FormSteps
mod FormComplete
mod FormSound
mod FormRuns
pub mod MarkTable
pub mod MarkFronts
pub mod TokenTexts
pub mod TokenLists
mod DigitRuns
pub mod LexemeLaws
mod OutComplete
mod OutSound
pub mod TermShapes
mod ItemTexts
pub mod Feeding
pub mod LoneMarks
mod Commas
mod PhraseSound
mod ItemSound
mod TermRuns
mod PhraseRuns
mod ItemRuns
mod ItemComplete
mod ItemExact
mod ItemsWritten
mod ReadingsWritten
mod Passed
pub mod Gives
pub mod PhrasesFed
pub mod WordsRead
pub mod LastPass
pub mod Parses
pub mod TextParses
