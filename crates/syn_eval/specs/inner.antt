pub mod Rules
pub mod Fitting
pub mod Scopes
pub mod Weights
