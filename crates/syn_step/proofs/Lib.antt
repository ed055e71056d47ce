pub mod GivenSorts
pub mod Growth
pub mod NumberedRows
pub mod OfStart
pub mod StepLaws
pub mod StepOutputs
