pub mod Faults
pub mod Files
pub mod Texts
pub mod Memory
pub mod inner
