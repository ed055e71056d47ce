-- Definitions for private contracts and for proofs.
pub mod Firsts
pub mod StepReading
pub mod Telling
