pub mod Growth
pub mod Owning
