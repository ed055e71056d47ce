pub mod Bodies
pub mod ClosedDefaults
pub mod ClosedOutputs
pub mod ClosedTerms
pub mod Listed
pub mod PrimitiveTrees
pub mod SpecHeads
