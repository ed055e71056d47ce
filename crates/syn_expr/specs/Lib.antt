pub mod Scopes
pub mod Limits
pub mod Belonging
pub mod TextAnswers
pub mod Readable
pub mod Told
pub mod inner
