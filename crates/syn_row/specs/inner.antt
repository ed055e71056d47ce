pub mod Noting
pub mod Renumbering
pub mod Guarding
