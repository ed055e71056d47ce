-- Definitions for private contracts and for proofs.
pub mod Accepting
pub mod Elaborating
pub mod Places
pub mod Proper
pub mod Spending
pub mod Reserved
