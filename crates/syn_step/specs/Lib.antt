pub mod Steps
pub mod Acceptance
