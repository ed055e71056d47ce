pub mod DerivationLines
pub mod PrintedDerivation
pub mod inner
