pub mod ClosedForms
pub mod Kinds
pub mod SpecHeads
