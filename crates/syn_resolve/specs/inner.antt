pub mod Answers
pub mod Instances
pub mod Reflexing
pub mod Standing
pub mod Resolving
pub mod Replacing
